use Rattle.{std.proofs.Common.{◌≡◌, ◌≤◌, map, filter_map, drop, length, ◌++◌}, arrayvec.specs.ArrayVec.array_vec_len, toml.specs.View.view}
use Rattle.{tally_base.specs.Settings.group_view, plan_text.specs.Groups.group}
use Rattle.plan_text.proofs.read.groups_of.Given as goal

abbrev pub invariant-items : goal.invariant-items
invariant-items l = record {
  room : array_vec_len l.found ≤ l.item-index;
  few : length l.items ≤ 64;
  so_far : map group_view l.found.items
      ++ filter_map (group (view l.document)) (map view (drop l.item-index l.items)) ≡ filter_map (group (view l.document)) (map view l.items);
}
