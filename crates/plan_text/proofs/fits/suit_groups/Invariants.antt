use Rattle.{std.proofs.Common.{◌≡◌, ◌+◌, ◌≤◌, map, drop, length}, tally_base.specs.declared.{part.PartKind.TheVariants.Gate, fault.Fault.TheVariants.PlanMode}}
use Rattle.{tally_base.specs.Settings.group_view, toml_rules.specs.Rules.held_from, plan_text.specs.Fits.group_suits}
use Rattle.plan_text.proofs.fits.suit_groups.Given as goal

abbrev pub invariant-groups : goal.invariant-groups
invariant-groups l = record {
  index : l.index ≡ l.group-index + 1;
  few : length l.groups ≤ 64;
  rest : held_from (λ number. PlanMode Gate number l.mode) l.index (map (group_suits l.mode) (map group_view (drop l.group-index l.groups))) ≡ held_from (λ number. PlanMode Gate number l.mode) 1 (map (group_suits l.mode) (map group_view l.groups));
}
