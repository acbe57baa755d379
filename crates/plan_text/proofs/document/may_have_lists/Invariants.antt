use Rattle.{std.proofs.Common.{◌≡◌, ◌+◌, ◌≤◌, map, drop, length}, tally_base.specs.declared.fault.Fault.TheVariants.PlanRule, toml.specs.View.view}
use Rattle.{toml_rules.specs.Rules.held_from, plan_text.specs.Document.rule_of_lists}
use Rattle.plan_text.proofs.document.may_have_lists.Given as goal

abbrev pub invariant-lists : goal.invariant-lists
unfolding rule_of_lists
invariant-lists l = record {
  place : l.place ≡ l.key-index + 1;
  few : length l.lists ≤ 255;
  rest : held_from (PlanRule 6) l.place (rule_of_lists (map (λ list. (list.0.now, list.1)) (drop l.key-index l.lists)) (view l.document)).tests
      ≡ held_from (PlanRule 6) 1 (rule_of_lists (map (λ list. (list.0.now, list.1)) l.lists) (view l.document)).tests;
}
