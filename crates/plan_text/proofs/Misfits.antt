-- What `fits` refuses is the first part that doesn't suit the mode.
use Rattle.std.proofs.Common.{◌≡◌, refl, ap, ◌∙◌, ℕ, ◌+◌, List, [], ◌∷◌, ◌++◌, ◌<◌, length, map, Bool, Option, None, Some, Result, Ok, Err, inl, inr, arith}
use Rattle.{std.{proofs.{Common.rules, lemmas.Result.IfErr-at_err}, specs.List.AllByRecursion}, tally_base.specs.declared.fault.Fault.Fault}
use Rattle.tally_base.specs.declared.{fault.Fault.TheVariants.PlanMode, header.Mode.{Mode, TheVariants.{T2, T3}}, part.PartKind.{PartKind, TheVariants.Gate}}
use Rattle.tally_base.specs.{declared.{part.PartKind.TheVariants.Shift, settings.ShiftSet.ShiftSet}, Settings.{PartSettings, shift_view}}
use Rattle.toml_rules.{specs.Rules.{or_next, held_from, BreaksFirst, BreaksAt}, proofs.Least.{or_next_err, breaks_first, kept_nowhere}}
use Rattle.plan_text.specs.{Plan.PlanView, Fits.{fits, misfit, refusal, group_suits, shift_suits, groups_fit, shifts_fit, parts_fit, IsFirstMisfit, IsMisfit}}

pub or_next_assoc : (a b c : Result (Unit {0}) Fault) → or_next a (or_next b c) ≡ or_next (or_next a b) c
or_next_assoc a b c = search (rules, arith)

-- tables after tables
pub parts_fit_after : (mode : Mode) (before after : List PartSettings)
    → parts_fit mode (before ++ after) ≡ or_next (parts_fit mode before) (parts_fit mode after)
parts_fit_after mode [] after = refl
parts_fit_after mode (part ∷ before) after = search (rules, arith, or_next_assoc, parts_fit_after mode before after)

-- ## From the answer to the first part

refused_by : (mode : Mode) (found : Option PartKind) (fault : Fault) → refusal mode found ≡ Err fault
    → (kind : PartKind) × (found ≡ Some kind) × (fault ≡ PlanMode kind 1 mode)
refused_by mode None fault err = search (rules, err)
refused_by mode (Some kind) fault err = (kind, refl, IfErr-at_err (λ e. e ≡ PlanMode kind 1 mode) err refl)

pub suits_by : (mode : Mode) (found : Option PartKind) → refusal mode found ≡ Ok tt → found ≡ None
suits_by mode found ok = search (rules, arith)

first_refused : (mode : Mode) (parts : List PartSettings) (fault : Fault) → parts_fit mode parts ≡ Err fault
    → (kind : PartKind) × (fault ≡ PlanMode kind 1 mode) × IsFirstMisfit mode parts kind
first_refused mode [] fault err = search (rules, err)
first_refused mode (part ∷ parts) fault err =
    elim (or_next_err (refusal mode (misfit mode part)) (parts_fit mode parts) fault err) [
      | inl refused ↦
          let (kind, names, is) = refused_by mode (misfit mode part) fault refused in
          (kind, is, record { before = []; here = part; after = parts; stands = refl; names = names; suit = tt })
      | inr passed ↦
          let (kind, is, first) = first_refused mode parts fault passed.1 in
          (kind, is, record { before = part ∷ first.before; here = first.here; after = first.after; stands = ap (λ l. part ∷ l) first.stands; names = first.names; suit = (suits_by mode (misfit mode part) passed.0, first.suit) })
    ]

pub misfit_named : (mode : Mode) (plan : PlanView) (fault : Fault) → fits mode plan ≡ Err fault → IsMisfit mode plan fault
unfolding fits
misfit_named mode plan fault err =
    let groups = map (group_suits mode) plan.groups in
    let shifts = map (shift_suits mode) plan.shifts in
    elim (or_next_err (groups_fit mode plan.groups) (or_next (shifts_fit mode plan.shifts) (parts_fit mode plan.parts)) fault err) [
      | inl gate ↦ inl (breaks_first (λ number. PlanMode Gate number mode) 1 groups fault gate)
      | inr ungated ↦
          let gates = kept_nowhere (λ number. PlanMode Gate number mode) 1 groups ungated.0 in
          elim (or_next_err (shifts_fit mode plan.shifts) (parts_fit mode plan.parts) fault ungated.1) [
            | inl shift ↦ inr (inl (gates, breaks_first (λ number. PlanMode Shift number mode) 1 shifts fault shift))
            | inr passed ↦ inr
                (inr (gates, kept_nowhere (λ number. PlanMode Shift number mode) 1 shifts passed.0, first_refused mode plan.parts fault passed.1))
          ]
    ]

-- what is named is a part
pub names_part : (mode : Mode) (plan : PlanView) (fault : Fault) → IsMisfit mode plan fault
    → (kind : PartKind) × (number : ℕ) × (fault ≡ PlanMode kind number mode)
names_part mode plan fault (inl (number, is, first)) = (Gate, number, is)
names_part mode plan fault (inr (inl (suit, (number, is, first)))) = (Shift, number, is)
names_part mode plan fault (inr (inr (suit, suits, (kind, is, first)))) = (kind, 1, is)

-- ## From the first part to the answer

refused_first : (mode : Mode) (before : List PartSettings) (here : PartSettings) (after : List PartSettings) (kind : PartKind) → misfit mode here ≡ Some kind
    → AllByRecursion (λ part. misfit mode part ≡ None) before → parts_fit mode (before ++ here ∷ after) ≡ Err (PlanMode kind 1 mode)
refused_first mode [] here after kind names suit = rw names refl
refused_first mode (part ∷ before) here after kind names suit = rw suit.0 (refused_first mode before here after kind names suit.1)

first_by : (make : ℕ → Fault) (first : ℕ) (tests : List Bool) (index : ℕ) (r : Result (Unit {0}) Fault)
    → BreaksFirst first tests index → held_from make first tests ≡ r → held_from make first tests ≡ Err (make index)
first_by make first tests index (Ok done) breaks is = absurd (kept_nowhere make first tests is index breaks.breaks)
first_by make first tests index (Err fault) breaks is =
    let (other, names, found) = breaks_first make first tests fault is in
    let same : other ≡ index = omega (arith, found.least index breaks.breaks, breaks.least other found.breaks) in
    is ∙ ap (λ f. Err f) (names ∙ ap make same)

none_by : (make : ℕ → Fault) (first : ℕ) (tests : List Bool) (r : Result (Unit {0}) Fault)
    → ((at' : ℕ) → BreaksAt first tests at' → ⊥) → held_from make first tests ≡ r → held_from make first tests ≡ Ok tt
none_by make first tests r none is = search (rules, arith, breaks_first)

pub is_first : (mode : Mode) (plan : PlanView) (fault : Fault) → IsMisfit mode plan fault → fits mode plan ≡ Err fault
unfolding fits
is_first mode plan fault h1 = search (rules, arith, first_by, none_by, refused_first)

-- ## Shifts

-- no shift suits T2
pub shifts_refused : (sets : List ShiftSet) → 0 < length sets → shifts_fit T2 (map shift_view sets) ≡ Err (PlanMode Shift 1 T2)
shifts_refused [] some = absurd (omega (arith, some))
shifts_refused (set ∷ sets) some = refl

held_in_T3 : (first : ℕ) (sets : List ShiftSet) → held_from (λ number. PlanMode Shift number T3) first (map (shift_suits T3) (map shift_view sets)) ≡ Ok tt
held_in_T3 first [] = refl
held_in_T3 first (set ∷ sets) = held_in_T3 (first + 1) sets

-- each suits T3
pub shifts_pass : (sets : List ShiftSet) → shifts_fit T3 (map shift_view sets) ≡ Ok tt
shifts_pass = held_in_T3 1

-- ## Tables of one kind

module _ {S : Type 0} (settings : S → PartSettings) (mode : Mode) where
  pub all_fit : ((set : S) → misfit mode (settings set) ≡ None) → (sets : List S) → parts_fit mode (map settings sets) ≡ Ok tt
  all_fit suit [] = refl
  all_fit suit (set ∷ sets) = rw (suit set) (all_fit suit sets)

  pub none_fits : (kind : PartKind) → ((set : S) → misfit mode (settings set) ≡ Some kind)
      → (sets : List S) → 0 < length sets → parts_fit mode (map settings sets) ≡ Err (PlanMode kind 1 mode)
  none_fits kind names [] some = absurd (omega (arith, some))
  none_fits kind names (set ∷ sets) some = rw (names set) refl
