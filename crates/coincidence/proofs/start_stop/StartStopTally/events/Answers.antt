use Rattle.{std.proofs.Common.{◌≡◌, false, length, rules, arith, length-append}, tally_base.proofs.{BlockRows.length-rows, Floors.greatest_block}}
use Rattle.tally_base.proofs.{Floors.{order-lower, floor-lower}, Sums.whole_slice}
use Rattle.coincidence.proofs.start_stop.StartStopTally.events.Goals as goal

pub count_block-self-requires-clause-in_order : goal.count_block-self-requires-clause-in_order
count_block-self-requires-clause-in_order g c = search (rules, arith, order-lower)

pub invariant_of-self : goal.invariant_of-self
invariant_of-self g c = search (rules, arith, whole_slice, floor-lower)

pub returns-clause-follows : goal.returns-clause-follows
returns-clause-follows g c = λ h is.
    let e = rw c.deref_mut.ensures.value at c.count_block-self.ensures in
    let count : length c.count_block-self.new.cells ≡ length c.args.self.now.cells.items = search rules in
    let all : c.args.self.now.cells.len ≡ length c.args.self.now.cells.items = search rules in
    let now = e.follows h (record { each = is.cells; rest = is.over; open' = is.start }) in
    record {
      cells = λ b lt. rw (whole_slice _ _ _ count all) (now.each b lt);
      over = now.rest;
      start = now.open';
      taken = search (rules, arith, length-append, length-rows);
      floor = greatest_block false h c.args.block.now _ _ is.floor c.requires.in_order c.floor_after-self.ensures;
    }
