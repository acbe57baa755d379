use Rattle.std.proofs.Common.{◌≡◌, ℕ, ◌<◌, ◌≤◌, List, ◌∷◌, [], map, drop, length, get_or, false, None, is_some, option_map, Result, Ok, Err, refl, sym, ap, ◌∙◌}
use Rattle.{std.proofs.Math.ListN.drop_of_length-le, toml.specs.{Data.Data, declared.value.Value.Value, View.view}, tally_base.specs.declared.fault.Fault.Fault}
use Rattle.{tally_base.specs.declared.fault.Fault.TheVariants.PlanRule, toml_rules.specs.Rules.{or_next, kept, all_kept, held_from}}
use Rattle.{toml_rules.proofs.Least.all_kept_after, plan_text.{specs.Kind.{Kind, tables, last_rule, kind_rules}, proofs.Numbers.first_of}}
use Rattle.plan_text.proofs.kind.list_by_rules.Goals as goal

nothing_next : (answer : Result (Unit {0}) Fault) → or_next answer (Ok tt) ≡ answer
nothing_next (Ok done) = refl
nothing_next (Err fault) = refl

-- where the rules before it are kept, the last one answers
last_answers : (kind : Kind) (d : Data) (answer : Result (Unit {0}) Fault) → all_kept (kind.before d) ≡ Ok tt → kept (last_rule kind d) ≡ answer
    → all_kept (kind_rules kind d) ≡ answer
last_answers kind d answer before last = rw (all_kept_after (kind.before d) (last_rule kind d ∷ []), before, last) (nothing_next answer)

-- the table in turn gives no settings
one_refused : (kind : Kind) (d : Data) (index i : ℕ) (vs : List Value) (v : Value) → all_kept (kind.before d) ≡ Ok tt → map view vs ≡ tables kind d
    → i < length vs → v ≡ get_or vs i v → kind.read d (view v) ≡ None
    → held_from (PlanRule kind.last) index (map (λ table. is_some (kind.read d table)) (map view (drop i vs)))
    ≡ held_from (PlanRule kind.last) 1 (map (λ table. is_some (kind.read d table)) (map view vs))
    → all_kept (kind_rules kind d) ≡ Err (PlanRule kind.last index)
one_refused kind d index i vs v before are within at none rest =
    let here : is_some (kind.read d (view v)) ≡ false = rw none refl in
    let so_far = rw (first_of vs i v within at) at rest in
    last_answers kind d (Err (PlanRule kind.last index)) before (rw (← are) (sym (rw here at so_far)))

-- each table gave settings
all_given : (kind : Kind) (d : Data) (index i : ℕ) (vs : List Value) → all_kept (kind.before d) ≡ Ok tt → map view vs ≡ tables kind d → length vs ≤ i
    → held_from (PlanRule kind.last) index (map (λ table. is_some (kind.read d table)) (map view (drop i vs)))
    ≡ held_from (PlanRule kind.last) 1 (map (λ table. is_some (kind.read d table)) (map view vs))
    → all_kept (kind_rules kind d) ≡ Ok tt
all_given kind d index i vs before are past rest =
    last_answers kind d (Ok tt) before (rw (← are) (sym (rw (drop_of_length-le vs {i = i} past) at rest)))

pub returns-in-None-clause-refused : goal.returns-in-None-clause-refused
returns-in-None-clause-refused g c =
    let none = sym c.read.ensures ∙ ap (option_map g.K.PlanKind.settings) c.in-None.is in
    rw c.last_rule.ensures (one_refused g.K.PlanKind.kind (view c.args.document.now) c.items.index c.items.item-index _ c.item-item.result
    (sym c.in_ok-keeps_before.ensures) c.tables-items.ensures c.items-test.true c.item-item.is none c.items.invariant.rest)

pub returns-clause-kept : goal.returns-clause-kept
returns-clause-kept g c =
    all_given g.K.PlanKind.kind (view c.args.document.now) c.items.index c.items.item-index _
    (sym c.in_ok-keeps_before.ensures) c.tables-items.ensures c.items-test.false c.items.invariant.rest
