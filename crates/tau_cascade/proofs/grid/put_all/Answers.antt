use Rattle.{std.proofs.{Common.{rules, arith}, lemmas.{Nat.{le_or_l, le_or_r}, List.Sums.sum_by_push}}, tau_cascade.proofs.{Close.cut, Places.weight_few}}
use Rattle.tau_cascade.proofs.Places.{has_place}
use Rattle.tau_cascade.proofs.grid.put_all.Goals as goal

pub overflow_sub-at : goal.overflow_sub-at
overflow_sub-at c = (has_place _ _ _ _ c.loop-bin-test.true c.requires.near.0).0

pub put-requires : goal.put-requires
put-requires c =
    let near = has_place _ _ _ _ c.loop-bin-test.true c.requires.near.0 in
    record { inside = omega arith; fits = omega (arith, weight_few, le_or_l) }

pub put-requires-in-loop-bin : goal.put-requires-in-loop-bin
put-requires-in-loop-bin c =
    let near = has_place _ _ _ _ c.loop-bin-test.true c.requires.near.0 in
    record { inside = omega arith; fits = omega (arith, weight_few, le_or_r) }

pub loop-bin-preserved : goal.loop-bin-preserved
loop-bin-preserved c = search (rules, arith, has_place _ _ _ _ c.loop-bin-test.true c.requires.near.0, cut, sum_by_push, le_or_l, le_or_r)
