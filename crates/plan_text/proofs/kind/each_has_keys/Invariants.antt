use Rattle.{std.proofs.Common.{◌≡◌, ◌+◌, ◌≤◌, map, drop, length}, tally_base.specs.declared.fault.Fault.TheVariants.PlanRule, toml.specs.View.view}
use Rattle.toml_rules.specs.{Rules.held_from, Values.has_keys}
use Rattle.plan_text.proofs.kind.each_has_keys.Given as goal

abbrev pub invariant-items : goal.invariant-items
invariant-items l = record {
  index : l.index ≡ l.item-index + 1;
  few : length l.items ≤ 255;
  rest : held_from (PlanRule l.rule) l.index (map (has_keys (map (λ k. k.now) l.needed) (map (λ k. k.now) l.other)) (map view (drop l.item-index l.items)))
      ≡ held_from (PlanRule l.rule) 1 (map (has_keys (map (λ k. k.now) l.needed) (map (λ k. k.now) l.other)) (map view l.items));
}
