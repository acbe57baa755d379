use Rattle.{std.proofs.Common.{◌≡◌, ◌≤◌, map, take, length}, tally_base.specs.Settings.group_view}
use Rattle.gate_plan.proofs.copies.clone_groups.Given as goal

abbrev pub invariant-groups : goal.invariant-groups
invariant-groups l = record {
  few : length l.items ≤ 64;
  count : length l.again.items ≡ l.group-index;
  same : map group_view l.again.items ≡ map group_view (take l.group-index l.items);
}
