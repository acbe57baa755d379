use Rattle.{std.proofs.Common.{◌≡◌, ◌≤◌, filter, length, nat_le}, lag_ring.specs.Ring.IsRising}
use Rattle.lag_ring.proofs.ring.drop_before.Given as goal

abbrev pub invariant-loop-e : goal.invariant-loop-e
invariant-loop-e l = record {
  same : filter (λ e. nat_le l.before e.index) l.kept.items ≡ filter (λ e. nat_le l.before e.index) l.fn.kept.items;
  rising : IsRising l.kept.items;
  within : length l.kept.items ≤ length l.fn.kept.items;
  reach : l.kept.capacity ≡ l.fn.kept.capacity;
}

abbrev pub decreases-loop-e : goal.decreases-loop-e
decreases-loop-e l = length l.kept.items
