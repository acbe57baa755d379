use Rattle.{std.proofs.{Common.{rules, arith}, lemmas.List.take_all}, record_layout.proofs.KindLemmas.{others-fit, counts_of-three}}
use Rattle.record_layout.proofs.kinds.kinds_in_block.Goals as goal

pub overflow_sub-result : goal.overflow_sub-result
overflow_sub-result g c =
    let all = take_all c.loop-bytes.bytes-index c.args.words.now c.loop-bytes-test.false in
    let seen = c.loop-bytes.invariant in
    others-fit g.R.RecordLayout.meaning c.args.words.now _ _ _ (rw all at seen.photons) (rw all at seen.markers) (rw all at seen.wraps)

pub returns : goal.returns
returns g c = search (rules, arith, take_all, counts_of-three)
