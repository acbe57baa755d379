use Rattle.{std.proofs.Common.{◌≡◌, ◌+◌, ◌≤◌, map, filter_map, drop, length, is_some, ◌++◌}, arrayvec.specs.ArrayVec.array_vec_len}
use Rattle.{tally_base.specs.{Settings.shift_view, declared.fault.Fault.TheVariants.PlanRule}, toml.specs.View.view, toml_rules.specs.Rules.held_from}
use Rattle.plan_text.specs.Shifts.{shifts_from}
use Rattle.plan_text.proofs.shifts.shifts_in.Given as goal

abbrev pub invariant-items : goal.invariant-items
invariant-items l = record {
  index : l.index ≡ l.item-index + 1;
  room : array_vec_len l.found ≤ l.item-index;
  few : length l.items ≤ 65;
  rest : held_from (PlanRule l.rule) l.index (map (λ set. is_some set) (shifts_from l.period l.low (map view (drop l.item-index l.items))))
      ≡ held_from (PlanRule l.rule) 1 (map (λ set. is_some set) (shifts_from l.period 0 (map view l.items)));
  so_far : map shift_view l.found.items ++ filter_map (λ set. set)
      (shifts_from l.period l.low (map view (drop l.item-index l.items))) ≡ filter_map (λ set. set) (shifts_from l.period 0 (map view l.items));
}
