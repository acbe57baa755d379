-- The tables of a plan that suits T2 are in no strict order of time.
use Rattle.std.{proofs.Common.{◌≡◌, ◌<◌, ℕ, zero, suc, get_or, List, [], ◌∷◌, false, length, None, Result, Ok, arith, rules}, specs.List.AllByRecursion}
use Rattle.tally_base.specs.{declared.{fault.Fault.Fault, header.Mode.{Mode, TheVariants.T2}}, Settings.{is_strict, PartSettings}}
use Rattle.{toml_rules.specs.Rules.or_next, plan_text.{specs.{Fits.{fits, misfit, refusal, parts_fit}, Plan.{PlanView, parts_of}}, proofs.Misfits.suits_by}}
use Rattle.tally_engine.specs.{declared.part.Part.Part, contracts.part.PartTally.TheImpl.ghosts, Parts.settings_in}

-- settings of a kind that isn't strict
abbrev Loose : PartSettings → Type 0
Loose settings = is_strict settings ≡ false

-- only images and cubes are strict, and T2 refuses them
loose : (settings : PartSettings) → misfit T2 settings ≡ None → Loose settings
loose settings suits = search (rules, arith)

first_ok : (r next : Result (Unit {0}) Fault) → or_next r next ≡ Ok (tt {0}) → r ≡ Ok (tt {0})
first_ok r next ok = search (rules, arith)

next_ok : (r next : Result (Unit {0}) Fault) → or_next r next ≡ Ok (tt {0}) → next ≡ Ok (tt {0})
next_ok r next ok = search (rules, arith)

all_loose : (parts : List PartSettings) → parts_fit T2 parts ≡ Ok (tt {0}) → AllByRecursion Loose parts
all_loose [] fit = tt
all_loose (part ∷ parts) fit =
    (loose part (suits_by T2 (misfit T2 part) (first_ok (refusal T2 (misfit T2 part)) (parts_fit T2 parts) fit)), all_loose parts (next_ok (refusal T2 (misfit T2 part)) (parts_fit T2 parts) fit))

loose_parts : (plan : PlanView) → fits T2 plan ≡ Ok (tt {0}) → AllByRecursion Loose (parts_of plan)
unfolding fits
loose_parts plan fit = search (rules, arith, next_ok, all_loose)

all_at : (parts : List Part) (k : ℕ) (d : Part) → k < length parts
    → AllByRecursion Loose (settings_in parts) → is_strict (ghosts.settings (get_or parts k d)) ≡ false
all_at [] k d within all = absurd (omega (arith, within))
all_at (p ∷ parts) zero d within all = all.0
all_at (p ∷ parts) (suc k) d within all = all_at parts k d (omega (arith, within)) all.1

-- The tables of a plan that suits T2 aren't strict.
pub suits_T2 : (mode : Mode) (plan : PlanView) (parts : List Part) → fits mode plan ≡ Ok (tt {0}) → settings_in parts ≡ parts_of plan → (k : ℕ) (d : Part)
    → k < length parts → mode ≡ T2 → is_strict (ghosts.settings (get_or parts k d)) ≡ false
suits_T2 mode plan parts fit are k d within is = search (rules, arith, all_at, loose_parts)
