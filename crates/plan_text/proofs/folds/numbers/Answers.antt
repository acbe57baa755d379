use Rattle.{std.proofs.{Common.{rules, arith, ◌≡◌, ◌<◌, ◌≤◌, ◌⊎◌, ◌∙◌, length, map}, lemmas.{Bool.Decides.nat_tests, List.length-map}}, toml.specs.View.view}
use Rattle.{toml_rules.proofs.Least.list_of_view, plan_text.{specs.{Groups.groups, Folds.{numbers, numbers_among, numbers_from}}, proofs.Among.none_among}}
use Rattle.plan_text.proofs.Among.{some_among}
use Rattle.plan_text.proofs.folds.numbers.Goals as goal

pub returns-then-is_empty-clause-numbers : goal.returns-then-is_empty-clause-numbers
unfolding numbers
returns-then-is_empty-clause-numbers c =
    let ds = map view c.as_slice-items.result.now in
    let most = length (groups (view c.args.document.now)) in
    let among : numbers_among most ds ≡ numbers (view c.args.document.now) (view c.args.table.now) = search (rules, list_of_view) in
    let out : (length ds ≡ 0) ⊎ (6 < length ds) = grind (arith, nat_tests, length-map c.as_slice-items.result.now view) in
    none_among 6 ds (numbers_from most 1 ds) out ∙ among

pub returns-clause-numbers : goal.returns-clause-numbers
unfolding numbers
returns-clause-numbers c =
    let ds = map view c.as_slice-items.result.now in
    let most = length (groups (view c.args.document.now)) in
    let among : numbers_among most ds ≡ numbers (view c.args.document.now) (view c.args.table.now) = search (rules, list_of_view) in
    let some : length ds ≡ 0 → ⊥ = grind (arith, nat_tests, length-map c.as_slice-items.result.now view) in
    let few : length ds ≤ 6 = omega (arith, length-map c.as_slice-items.result.now view) in
    (rw c.group_count.ensures at c.numbers_from.ensures.numbers) ∙ some_among 6 ds (numbers_from most 1 ds) some few ∙ among
