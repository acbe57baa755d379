-- Laws over any table: which of its lines ends a run, and with which status.
use Rattle.std.{proofs.Common.{◌≡◌, ℕ, ◌≤◌, Some, refl, sym, ap, ◌∙◌, subst, inl, inr, ◌↔◌, arith, rules}, specs.declared.option.Option.Option}
use Rattle.{tally_base.specs.{declared.fault.Fault.Fault, Faults.status_of}, command_work.specs.Outcomes.{Outcome, IsIn, status}, ptu_cli.specs.Tables.Phase}
use Rattle.ptu_cli.specs.Tables.{InPhase, Lines, NoLine, Line, within, Applies, AppliesAt, Cause, HasStatus, Sound}

-- Where this holds of what is known, a line of the table ends the run so, and none in another way.
pub record Meets {K X : Type 0} (given : K → Type 0) (table : Lines K X) (end_of : K → X → Outcome) : Type 0 where
  pub holds : (k : K) (x : X) → given k → Applies table k x (end_of k x)
  pub only : (k : K) (x : X) (end : Outcome) → given k → Applies table k x end → end_of k x ≡ end
  pub sound : Sound table

pub in_range : (low high a b : ℕ) → low ≤ a → b ≤ high → (n : ℕ) → IsIn a b n → IsIn low high n
in_range low high a b least most n s = (omega (arith, s.0, least), omega (arith, s.1, most))

pub as-status : (least greatest : ℕ) (end same : Outcome) → end ≡ same → IsIn least greatest (status same.fault) → IsIn least greatest (status end.fault)
as-status least greatest end same is h = subst (λ (o : Outcome). IsIn least greatest (status o.fault)) (sym is) h

module _ {K X L Y Z : Type 0} (holds : K → X → Z → Type 0) (known : K → X → Z → L) (seen : K → X → Z → Y) where
  pub in-within : (table : Lines L Y) (k : K) (x : X) (z : Z) (end : Outcome)
      → holds k x z → Applies table (known k x z) (seen k x z) end → Applies (within holds known seen table) k x end
  in-within NoLine k x z end h never = absurd never
  in-within (Line phase least greatest ends others) k x z end h (inl e) = inl (z, h, e)
  in-within (Line phase least greatest ends others) k x z end h (inr e) = inr (in-within others k x z end h e)

  pub of-within : (table : Lines L Y) (k : K) (x : X) (end : Outcome) → Applies (within holds known seen table) k x end
      → (z : Z) × holds k x z × Applies table (known k x z) (seen k x z) end
  of-within NoLine k x end never = absurd never
  of-within (Line phase least greatest ends others) k x end (inl e) = (e.0, e.1, inl e.2)
  of-within (Line phase least greatest ends others) k x end (inr e) = let it = of-within others k x end e in (it.0, it.1, inr it.2)

  pub within-sound : (table : Lines L Y) → Sound table → Sound (within holds known seen table)
  within-sound NoLine sound = tt
  within-sound (Line phase least greatest ends others) sound = search (rules, arith, within-sound others sound.2)

module _ {K X : Type 0} where
  at-some : (table : Lines K X) → Sound table → (k : K) (x : X) (end : Outcome) → Applies table k x end
      → (p : Phase) × AppliesAt p table k x end × InPhase p (status end.fault)
  at-some NoLine sound k x end never = absurd never
  at-some (Line phase least greatest ends others) sound k x end (inl e) = (phase, inl (refl, e), sound.0 (status end.fault) (sound.1 end k x e))
  at-some (Line phase least greatest ends others) sound k x end (inr e) = let it = at-some others sound.2 k x end e in (it.0, inr it.1, it.2)

  at-any : (p : Phase) (table : Lines K X) (k : K) (x : X) (end : Outcome) → AppliesAt p table k x end → Applies table k x end
  at-any p NoLine k x end never = absurd never
  at-any p (Line phase least greatest ends others) k x end (inl e) = inl e.1
  at-any p (Line phase least greatest ends others) k x end (inr e) = inr (at-any p others k x end e)

  pub has-status : (table : Lines K X) → Sound table → (k : K) (x : X) (end : Outcome) → Applies table k x end → HasStatus table (status end.fault)
  has-status NoLine sound k x end never = absurd never
  has-status (Line phase least greatest ends others) sound k x end (inl e) = inl (sound.1 end k x e)
  has-status (Line phase least greatest ends others) sound k x end (inr e) = inr (has-status others sound.2 k x end e)

-- no number is a status of two phases
one-phase : (p q : Phase) (n : ℕ) → InPhase p n → InPhase q n → p ≡ q
one-phase p q n s t = search (rules, arith)

-- A run ends with a fault of a phase exactly where a line of it calls for it.
pub exactly : {K X : Type 0} (given : K → Type 0) (table : Lines K X) (end_of : K → X → Outcome) → Meets given table end_of
    → (p : Phase) (k : K) (x : X) (fault : Fault) → given k → InPhase p (status_of fault)
    → ((end_of k x).fault ≡ Some fault) ↔ Cause p table k x fault
exactly given table end_of told p k x fault has s = (
  λ ends.
      let it = at-some table told.sound k x (end_of k x) (told.holds k x has) in
      let same = one-phase it.0 p (status_of fault) (subst (λ (o : Option Fault). InPhase it.0 (status o)) ends it.2) s in
      (end_of k x, subst (λ (q : Phase). AppliesAt q table k x (end_of k x)) same it.1, ends),
  λ cause. ap (λ (o : Outcome). o.fault) (told.only k x cause.0 has (at-any p table k x cause.0 cause.1)) ∙ cause.2,
)
