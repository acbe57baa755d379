use Rattle.{std.proofs.Common.{◌≡◌, ◌+◌, ◌≤◌, map, filter_map, drop, length, is_some, ◌++◌}, arrayvec.specs.ArrayVec.array_vec_len}
use Rattle.{tally_base.specs.declared.fault.Fault.TheVariants.PlanRule, toml.specs.View.view, toml_rules.specs.Rules.held_from, plan_text.specs.Groups.groups}
use Rattle.plan_text.proofs.kind.list_by_rules.Given as goal

abbrev pub invariant-items : goal.invariant-items
invariant-items g l = record {
  index : l.index ≡ l.item-index + 1;
  room : array_vec_len l.found ≤ l.item-index;
  few : length l.items ≤ g.row.N;
  groups : length (groups (view l.document)) ≤ 64;
  rest : held_from (PlanRule g.K.PlanKind.kind.last) l.index (map (λ table. is_some (g.K.PlanKind.kind.read (view l.document) table)) (map view (drop l.item-index l.items)))
      ≡ held_from (PlanRule g.K.PlanKind.kind.last) 1 (map (λ table. is_some (g.K.PlanKind.kind.read (view l.document) table)) (map view l.items));
  so_far : map g.K.PlanKind.settings l.found.items ++ filter_map (g.K.PlanKind.kind.read (view l.document))
      (map view (drop l.item-index l.items)) ≡ filter_map (g.K.PlanKind.kind.read (view l.document)) (map view l.items);
}
