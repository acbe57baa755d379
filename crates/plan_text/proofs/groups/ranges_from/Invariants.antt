use Rattle.{std.proofs.Common.{◌≡◌, ◌≤◌, ◌++◌, map, drop, length, option_map}, arrayvec.specs.ArrayVec.array_vec_len, toml.specs.View.view}
use Rattle.plan_text.specs.Groups.{ranges_from}
use Rattle.plan_text.proofs.groups.ranges_from.Given as goal

abbrev pub invariant-items : goal.invariant-items
invariant-items l = record {
  room : array_vec_len l.ranges ≤ l.item-index;
  few : length l.items ≤ 8;
  rest : option_map (λ more. l.ranges.items ++ more) (ranges_from l.low (map view (drop l.item-index l.items))) ≡ ranges_from 0 (map view l.items);
}
