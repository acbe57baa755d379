use Rattle.{std.proofs.Common.{rules, arith, length-append}, tally_base.proofs.{BlockRows.length-rows, Floors.{greatest_block, order-lower, floor-lower}}}
use Rattle.{tally_base.proofs.Sums.whole_slice, fold_count.proofs.Pushed.open_follows}
use Rattle.fold_count.proofs.fold.FoldTally.events.Goals as goal

pub put_block-self-requires-clause-comes : goal.put_block-self-requires-clause-comes
put_block-self-requires-clause-comes g c = search (rules, arith, order-lower)

pub invariant_of-self : goal.invariant_of-self
invariant_of-self g c = search (rules, arith, whole_slice, floor-lower)

pub returns-clause-follows : goal.returns-clause-follows
returns-clause-follows g c = search (rules, arith, open_follows, whole_slice, length-append, length-rows, greatest_block)
