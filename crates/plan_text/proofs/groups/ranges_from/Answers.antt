use Rattle.{std.proofs.Common.arith, plan_text.proofs.Gates.ranges_kept}
use Rattle.plan_text.proofs.groups.ranges_from.Goals as goal

pub items-preserved : goal.items-preserved
items-preserved c =
    record {
      room = omega (arith, c.push.ensures.len, c.items.invariant.room);
      few = c.items.invariant.few;
      rest = rw c.push.ensures.items (ranges_kept c.items.ranges.items c.items.low c.items.item-index c.in_ok-range.range
          _ c.item-item.result _ c.items-test.true c.item-item.is c.in_ok-range.ensures c.items.invariant.rest);
    }
