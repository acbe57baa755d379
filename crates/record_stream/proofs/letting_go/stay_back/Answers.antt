use Rattle.std.proofs.{Common.{rules, append_assoc, append-nil, arith, length-append, length-drop}, lemmas.List.drop-append-le, Math.ListN.drop_of_length-le}
use Rattle.tally_base.proofs.BlockRows.{length-rows, more_rows}
use Rattle.record_stream.proofs.letting_go.stay_back.Goals as goal

pub loop-at-init : goal.loop-at-init
loop-at-init c = search (rules, arith, drop_of_length-le, length-rows, append-nil)

pub push-requires : goal.push-requires
push-requires c = search (rules, arith, length-append, length-drop, length-rows)

pub loop-at-preserved : goal.loop-at-preserved
loop-at-preserved c = search (rules, arith, length-rows, more_rows, drop-append-le, append_assoc)
