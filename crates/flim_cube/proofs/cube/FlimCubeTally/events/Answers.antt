use Rattle.{std.proofs.Common.{true, rules, arith, length-append}, tally_base.{specs.Columns.{item, events_in}, proofs.BlockRows.length-rows}}
use Rattle.tally_base.proofs.Floors.{greatest_block, order-lower, floor-lower}
use Rattle.flim_cube.proofs.cube.FlimCubeTally.events.Goals as goal

pub count_block-requires-clause-in_order : goal.count_block-requires-clause-in_order
count_block-requires-clause-in_order g c = search (rules, arith, order-lower)

pub invariant_of-self : goal.invariant_of-self
invariant_of-self g c = search (rules, arith, floor-lower)

pub returns-clause-follows : goal.returns-clause-follows
returns-clause-follows g c = λ h is.
    let block = c.args.block.now in
    record {
      counts = c.count_block.ensures.follows h is.counts;
      taken = omega (arith, is.taken, c.len.ensures.count, length-append h (events_in block), length-rows (item block) block.len);
      floor = greatest_block true h block _ _ is.floor c.requires.in_order c.floor_after-self.ensures;
    }
