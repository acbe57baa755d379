use Rattle.{std.proofs.Common.{ℕ, ◌≡◌, ◌<◌, ◌≤◌}, tally_base.specs.Columns.{count, sorted, event_at}, gate_plan.specs.{Groups.sorting_of, Shifting.shifted}}
use Rattle.gate_plan.proofs.blocks.shift_each.Given as goal

abbrev pub invariant-loop-at : goal.invariant-loop-at
invariant-loop-at l = record {
  same_count : count l.block ≡ count l.initial.block;
  unsorted : sorted l.block ≡ sorted l.initial.block;
  shifted : (i : ℕ) → i < l.at → event_at l.block i ≡ shifted (sorting_of l.gates) (event_at l.initial.block i);
  left : (i : ℕ) → l.at ≤ i → event_at l.block i ≡ event_at l.initial.block i;
}
