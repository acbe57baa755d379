use Rattle.{std.proofs.{Common.{rules, arith, ◌≡◌, ◌<◌, ◌≤◌, ◌⊎◌, ◌∙◌, length, map}, lemmas.{Bool.Decides.nat_tests, List.length-map}}, toml.specs.View.view}
use Rattle.{toml_rules.proofs.Least.list_of_view, plan_text.{specs.Groups.{inputs, inputs_among, inputs_from}, proofs.Among.{none_among, some_among}}}
use Rattle.plan_text.proofs.groups.inputs.Goals as goal

pub returns-then-is_empty-clause-set : goal.returns-then-is_empty-clause-set
unfolding inputs
returns-then-is_empty-clause-set c =
    let ds = map view c.as_slice-items.result.now in
    let among : inputs_among ds ≡ inputs (view c.args.group.now) = search (rules, list_of_view) in
    let out : (length ds ≡ 0) ⊎ (65 < length ds) = grind (arith, nat_tests, length-map c.as_slice-items.result.now view) in
    rw (← among) (none_among 65 ds (inputs_from 0 ds) out)

pub returns-clause-set : goal.returns-clause-set
unfolding inputs
returns-clause-set c =
    let ds = map view c.as_slice-items.result.now in
    let among : inputs_among ds ≡ inputs (view c.args.group.now) = search (rules, list_of_view) in
    let some : length ds ≡ 0 → ⊥ = grind (arith, nat_tests, length-map c.as_slice-items.result.now view) in
    let few : length ds ≤ 65 = omega (arith, length-map c.as_slice-items.result.now view) in
    c.inputs_from.ensures.set ∙ some_among 65 ds (inputs_from 0 ds) some few ∙ among
