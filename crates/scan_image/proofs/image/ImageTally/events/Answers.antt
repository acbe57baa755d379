use Rattle.{std.proofs.Common.{rules, arith, length-append}, tally_base.proofs.{BlockRows.length-rows, Floors.{greatest_block, order-lower, floor-lower}}}
use Rattle.scan_image.proofs.image.ImageTally.events.Goals as goal

pub count_block-requires-clause-in_order : goal.count_block-requires-clause-in_order
count_block-requires-clause-in_order g c = search (rules, arith, order-lower)

pub invariant_of-self : goal.invariant_of-self
invariant_of-self g c = search (rules, arith, floor-lower)

pub returns-clause-follows : goal.returns-clause-follows
returns-clause-follows g c = search (rules, arith, length-append, length-rows, greatest_block)
