-- The first broken rule that is met is the least, and under it the least index.
use Rattle.std.proofs.Common.{◌≡◌, sym, ap, refl, ◌∙◌, ℕ, ◌+◌, ◌<◌, ◌≤◌, Bool, true, false, List, [], ◌∷◌, ◌++◌, ◌⊎◌, inl, inr, ⊎_elim, Result, Ok, Err, arith}
use Rattle.{std.proofs.{Common.{rules, map}, lemmas.Result.IfErr-at_err}, tally_base.specs.declared.fault.Fault.{Fault, TheVariants.PlanRule}}
use Rattle.{tally_base.specs.Faults.is_outside, toml_rules.specs.Rules.{Rule, BreaksAt, BreaksFirst, IsBroken, IsLeast, Names, AllHold, RiseFrom, or_next}}
use Rattle.{toml_rules.specs.{Rules.{held_from, kept, all_kept}, Values.list_of}, toml.specs.{View.{view, items_view}, declared.value.Value.Value}}

-- what is broken stands at the first index or after it
breaks_from : (first : ℕ) (tests : List Bool) (at : ℕ) → BreaksAt first tests at → first ≤ at
breaks_from first [] at b = absurd b
breaks_from first (test ∷ tests) at (inl here) = omega (arith, here.0)
breaks_from first (test ∷ tests) at (inr later) = omega (arith, breaks_from (first + 1) tests at later)

-- tests that all hold are broken nowhere
pub kept_nowhere : (make : ℕ → Fault) (first : ℕ) (tests : List Bool) → held_from make first tests ≡ Ok tt → (at : ℕ) → BreaksAt first tests at → ⊥
kept_nowhere make first [] ok at b = b
kept_nowhere make first (true ∷ tests) ok at (inl here) = search (rules, here.1)
kept_nowhere make first (true ∷ tests) ok at (inr later) = kept_nowhere make (first + 1) tests ok at later
kept_nowhere make first (false ∷ tests) ok at b = search (rules, ok)

-- where tests break, and nowhere before it
pub breaks_first : (make : ℕ → Fault) (first : ℕ) (tests : List Bool) (fault : Fault)
    → held_from make first tests ≡ Err fault → (at : ℕ) × (fault ≡ make at) × BreaksFirst first tests at
breaks_first make first [] fault err = search (rules, err)
breaks_first make first (false ∷ tests) fault err = (
  first,
  IfErr-at_err (λ e. e ≡ make first) err refl,
  record {
    breaks = inl (refl, refl);
    least = λ later b. breaks_from first (false ∷ tests) later b;
  },
)
breaks_first make first (true ∷ tests) fault err =
    let (at, names, more) = breaks_first make (first + 1) tests fault err in (
      at,
      names,
      record {
        breaks = inr more.breaks;
        least = λ later b. ⊎_elim (λ here. search (rules, here.1)) (λ after. more.least later after) b;
      },
    )

-- rules that rise are above what is below them all
above : (low : ℕ) (rules : List Rule) (n at : ℕ) → RiseFrom low rules → IsBroken rules n at → low < n
above low [] n at rise b = absurd b
above low (rule ∷ rules) n at rise (inl here) = omega (arith, rise.0, here.0)
above low (rule ∷ rules) n at rise (inr later) = omega (arith, rise.0, above rule.number rules n at rise.1 later)

or_next_ok : (r next : Result (Unit {0}) Fault) → or_next r next ≡ Ok tt → (r ≡ Ok tt) × (next ≡ Ok tt)
or_next_ok (Ok done) next ok = (refl, ok)
or_next_ok (Err fault) next ok = search (rules, ok)

-- one of two refusals
pub or_next_err : (r next : Result (Unit {0}) Fault) (fault : Fault) → or_next r next ≡ Err fault → (r ≡ Err fault) ⊎ ((r ≡ Ok tt) × (next ≡ Err fault))
or_next_err (Ok done) next fault err = inr (refl, err)
or_next_err (Err first) next fault err = inl err

or_next_assoc : (a b c : Result (Unit {0}) Fault) → or_next a (or_next b c) ≡ or_next (or_next a b) c
or_next_assoc (Ok done) b c = refl
or_next_assoc (Err fault) b c = refl

-- rules that are all kept are broken nowhere
pub all_kept_nowhere : (rules : List Rule) → all_kept rules ≡ Ok tt → AllHold rules
all_kept_nowhere [] ok n at b = b
all_kept_nowhere (rule ∷ rules) ok n at (inl here) =
    kept_nowhere (PlanRule rule.number) rule.first rule.tests (or_next_ok (kept rule) (all_kept rules) ok).0 at here.1
all_kept_nowhere (rule ∷ rules) ok n at (inr later) = all_kept_nowhere rules (or_next_ok (kept rule) (all_kept rules) ok).1 n at later

-- the fault that going through the rules answers, with its rule and index
named_least : (low : ℕ) (rules : List Rule) (fault : Fault) → RiseFrom low rules
    → all_kept rules ≡ Err fault → (n : ℕ) × (index : ℕ) × (fault ≡ PlanRule n index) × IsLeast rules n index
named_least low [] fault rise err = search (rules, err)
named_least low (rule ∷ rules) fault rise err =
    elim (or_next_err (kept rule) (all_kept rules) fault err) [
      | inl here ↦
          let (at_first, names, first) = breaks_first (PlanRule rule.number) rule.first rule.tests fault here in (
            rule.number,
            at_first,
            names,
            record {
              broken = inl (refl, first.breaks);
              least = λ other at b. ⊎_elim (λ same. inr (sym same.0, first.least at same.1)) (λ later. inl (above rule.number rules other at rise.1 later)) b;
            },
          )
      | inr passed ↦
          let (n, index, names, more) = named_least rule.number rules fault rise.1 passed.1 in (
            n,
            index,
            names,
            record {
              broken = inr more.broken;
              least = λ other at b. ⊎_elim (λ same. absurd (kept_nowhere (PlanRule rule.number) rule.first rule.tests passed.0 at same.1))
                  (λ later. more.least other at later) b;
            },
          )
    ]

pub names_least : (low : ℕ) (rules : List Rule) (fault : Fault) → RiseFrom low rules → all_kept rules ≡ Err fault → Names rules fault
names_least low rules fault rise err =
    let (n, index, names, least) = named_least low rules fault rise err in
    rw names least

-- it is called for by the document
pub all_kept_inside : (rules : List Rule) (fault : Fault) → all_kept rules ≡ Err fault → is_outside fault ≡ false
all_kept_inside [] fault err = search (rules, err)
all_kept_inside (rule ∷ rules) fault err =
    elim (or_next_err (kept rule) (all_kept rules) fault err) [
      | inl here ↦
          let (at, names, first) = breaks_first (PlanRule rule.number) rule.first rule.tests fault here in
          rw names refl
      | inr passed ↦ all_kept_inside rules fault passed.1
    ]

-- rules after rules
pub all_kept_after : (first second : List Rule) → all_kept (first ++ second) ≡ or_next (all_kept first) (all_kept second)
all_kept_after [] second = refl
all_kept_after (rule ∷ first) second = ap (or_next (kept rule)) (all_kept_after first second) ∙ or_next_assoc (kept rule) (all_kept first) (all_kept second)

-- Arrays of values as lists.

pub list_of_view : (vs : List Value) → list_of (items_view vs) ≡ map view vs
list_of_view [] = refl
list_of_view (v ∷ vs) = ap (λ ds. view v ∷ ds) (list_of_view vs)
