use Rattle.{std.proofs.Common.{◌≡◌, ◌-◌, ◌/◌, ◌&&◌, false, length, rules, arith, length-append, nat_lt, nat_le, ◌==◌}, tally_base.specs.Settings.trace_view}
use Rattle.tally_base.{specs.Columns.{item, events_in}, proofs.{BlockRows.length-rows, Floors.greatest_block, Sums.whole_slice}}
use Rattle.count_trace.proofs.Blocks.{count-append}
use Rattle.count_trace.proofs.trace.TraceTally.events.Goals as goal

pub returns-clause-follows : goal.returns-clause-follows
returns-clause-follows g c = λ h is.
    let t = c.args.self.now in
    let set = trace_view t.set in
    let block = c.args.block.now in
    let e = rw c.deref_mut.ensures.value at c.count_block.ensures.counts in
    let count : length c.count_block.new.cells ≡ length t.cells.items = search rules in
    let all : t.cells.len ≡ length t.cells.items = search rules in
    record {
      cells = λ b lt. rw (whole_slice c.count_block.new.cells t.cells.items t.cells.len count all) (omega (arith, e.each b lt, is.cells b lt, count-append set (λ time. nat_le set.origin time && ((time - set.origin) / set.width == b)) h (events_in block)));
      before = omega (arith, e.before, is.before, count-append set (λ time. nat_lt time set.origin) h (events_in block));
      beyond = omega (arith, e.beyond, is.beyond, count-append set (λ time. nat_le set.origin time && nat_le set.bins ((time - set.origin) / set.width)) h (events_in block));
      taken = omega (arith, is.taken, c.len.ensures.count, length-append h (events_in block), length-rows (item block) block.len);
      floor = greatest_block false h block _ _ is.floor c.requires.in_order c.floor_after-self.ensures;
    }
