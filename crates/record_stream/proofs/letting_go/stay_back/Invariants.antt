use Rattle.{std.proofs.Common.{◌≡◌, ◌++◌, drop}, tally_base.specs.Columns.written}
use Rattle.record_stream.proofs.letting_go.stay_back.Given as goal

abbrev pub invariant-loop-at : goal.invariant-loop-at
invariant-loop-at l = l.stay.items ≡ l.fn.stay.items ++ drop l.from (written l.block l.at)
