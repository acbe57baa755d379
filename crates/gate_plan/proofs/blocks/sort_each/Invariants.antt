use Rattle.{std.proofs.Common.{length, ℕ, ◌≡◌, ◌<◌, ◌≤◌, slice_index}, tally_base.specs.Columns.{event_at, code_at}, gate_plan.specs.Groups.sorting_of}
use Rattle.gate_plan.specs.Taking.{groups_by}
use Rattle.gate_plan.proofs.blocks.sort_each.Given as goal

abbrev pub invariant-loop-at : goal.invariant-loop-at
invariant-loop-at l = record {
  sized : length l.groups ≡ 1024;
  sorted : (i : ℕ) → i < l.at → slice_index l.groups i ≡ groups_by (sorting_of l.gates).groups (event_at l.block i);
  markers : (i : ℕ) → i < l.at → 256 ≤ code_at l.block i → slice_index l.groups i ≡ 0;
}
