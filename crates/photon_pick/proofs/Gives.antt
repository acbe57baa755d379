-- Photons given to a picker one after another.
use Rattle.std.proofs.Common.{◌≡◌, ◌∙◌, ◌↔◌, Bool, true, false, List, [], ◌∷◌, ◌++◌, Result, Ok, Err, ap, sym, subst, refl, rules, arith, ⊎_elim, append_assoc}
use Rattle.{std.proofs.{Common.{append-nil, inl, inr}, lemmas.List.Elements.filter-append}, tally_base.specs.declared.{event.Event.Event, fault.Fault.Fault}}
use Rattle.tally_base.specs.{declared.{fault.Fault.TheVariants.{PickTime, WriteFault}, header.Mode.Mode}, FaultCounts.Rose}
use Rattle.{ptu_definitions.{specs.Prefixes.each_after, proofs.PrefixLemmas.each_after-append}, record_write.specs.Picked.{is_too_late, photon_words}}
use Rattle.record_write.{specs.{Picker.{mode_of, HasPicked, Picks, OnWordsOf}, Writing.{PutsWords, CutsWords, PutsOrCuts, PickCause}}, proofs.Puts.puts-none}
use Rattle.{record_write.proofs.Puts.{puts-more, cuts-behind}, photon_pick.specs.Giving.{Gave, Pen, Stopped, TooLate, WriteFailed, words_behind}}
use Rattle.photon_pick.specs.Late.{too_late}

pub too_late-both : (mode : Mode) (ps qs : List Event) → too_late mode ps ≡ [] → too_late mode qs ≡ [] → too_late mode (ps ++ qs) ≡ []
too_late-both mode ps qs p q = filter-append (λ e. is_too_late mode e.time) ps qs ∙ rw (p, q) refl

-- ## Photons after others

module _ (p q r : Pen) (xs : List Event) (gave : Gave p q xs) where
  -- what was put of them
  puts : (ys : List Event) → ((behind : List Event) → HasPicked q.picker behind → PutsWords q.sink r.sink q.held r.held (words_behind q behind ys))
      → (behind : List Event) → HasPicked p.picker behind → PutsWords p.sink r.sink p.held r.held (words_behind p behind (xs ++ ys))
  puts ys text behind has =
      subst (λ l. PutsWords p.sink r.sink p.held r.held l) (sym (each_after-append (photon_words (mode_of p.picker)) behind xs ys))
      (puts-more p.sink q.sink r.sink p.held q.held r.held (words_behind p behind xs) (words_behind p (behind ++ xs) ys) (gave.text behind has)
      (subst (λ m. PutsWords q.sink r.sink q.held r.held (each_after (photon_words m) (behind ++ xs) ys)) gave.same_mode (text (behind ++ xs) (gave.picked behind has))))

  -- what was cut
  cuts : (ys : List Event) → ((behind : List Event) → HasPicked q.picker behind → CutsWords q.sink r.sink q.held r.held (words_behind q behind ys))
      → (behind : List Event) → HasPicked p.picker behind → CutsWords p.sink r.sink p.held r.held (words_behind p behind (xs ++ ys))
  cuts ys text behind has =
      subst (λ l. CutsWords p.sink r.sink p.held r.held l) (sym (each_after-append (photon_words (mode_of p.picker)) behind xs ys))
      (cuts-behind p.sink q.sink r.sink p.held q.held r.held (words_behind p behind xs) (words_behind p (behind ++ xs) ys) (gave.text behind has)
      (subst (λ m. CutsWords q.sink r.sink q.held r.held (each_after (photon_words m) (behind ++ xs) ys)) gave.same_mode (text (behind ++ xs) (gave.picked behind has))))

  in-time : (ys : List Event) → too_late (mode_of q.picker) ys ≡ [] → too_late (mode_of p.picker) (xs ++ ys) ≡ []
  in-time ys none = too_late-both (mode_of p.picker) xs ys gave.in_time (subst (λ m. too_late m ys ≡ []) gave.same_mode none)

  pub Gave-trans : (ys : List Event) → Gave q r ys → Gave p r (xs ++ ys)
  Gave-trans ys more = record {
    in_time = in-time ys more.in_time;
    picked = λ behind has. rw (← append_assoc behind xs ys) (more.picked (behind ++ xs) (gave.picked behind has));
    text = puts ys more.text;
    same_mode = more.same_mode ∙ gave.same_mode;
  }

  pub Stopped-behind : (ys : List Event) (fault : Fault) → Stopped q r ys fault → Stopped p r (xs ++ ys) fault
  Stopped-behind ys fault stop = record {
    front = xs ++ stop.front;
    e = stop.e;
    back = stop.back;
    are = ap (λ l. xs ++ l) stop.are ∙ sym (append_assoc xs stop.front (stop.e ∷ stop.back));
    in_time = in-time stop.front stop.in_time;
    why = ⊎_elim
        (λ (late : TooLate q r stop.front stop.e fault). inl (record {
          late = subst (λ m. is_too_late m stop.e.time ≡ true) gave.same_mode late.late;
          is = late.is;
          text = puts stop.front late.text;
        }))
        (λ (cut : WriteFailed q r stop.front stop.e fault). inr (record {
          soon = subst (λ m. is_too_late m stop.e.time ≡ false) gave.same_mode cut.soon;
          is = cut.is;
          text = λ behind has. rw (append_assoc xs stop.front (stop.e ∷ [])) (cuts (stop.front ++ stop.e ∷ []) cut.text behind has);
        }))
        stop.why;
  }

-- and of more photons the same was refused
pub Stopped-more : (p q : Pen) (xs ys : List Event) (fault : Fault) → Stopped p q xs fault → Stopped p q (xs ++ ys) fault
Stopped-more p q xs ys fault stop = record {
  front = stop.front;
  e = stop.e;
  back = stop.back ++ ys;
  are = ap (λ l. l ++ ys) stop.are ∙ append_assoc stop.front (stop.e ∷ stop.back) ys;
  in_time = stop.in_time;
  why = stop.why;
}

-- ## One photon, by what `put` says

abbrev Answer : Type 0
Answer = Result (Unit {0}) Fault

abbrev IsPickTime : Answer → Event → Type 0
IsPickTime answer e = answer ≡ Err (PickTime e.place)

is-false : (b : Bool) → (b ≡ true → ⊥) → b ≡ false
is-false b h = search (rules, arith)

module _ (p q : Pen) (e : Event) where
  abbrev TellsLate : Answer → Type 0
  TellsLate answer = IsPickTime answer e ↔ (is_too_late (mode_of p.picker) e.time ≡ true)

  abbrev Puts : Answer → Type 0
  Puts answer = OnWordsOf p.picker e (λ words. PutsOrCuts p.sink q.sink p.held q.held words answer)

  soon-by : (answer : Answer) → TellsLate answer → (IsPickTime answer e → ⊥) → is_too_late (mode_of p.picker) e.time ≡ false
  soon-by answer late other = is-false _ (λ is. other (late.1 is))

  -- It was picked.
  pub Gave-one : (done : Unit {0}) → TellsLate (Ok done) → Picks p.picker q.picker e → Puts (Ok done) → Gave p q (e ∷ [])
  Gave-one done late picks put = record {
    in_time = rw (soon-by (Ok done) late (λ is. cc)) refl;
    picked = picks.picked;
    text = λ behind has. rw append-nil (put behind has).puts;
    same_mode = picks.same_mode;
  }

  -- It was refused.
  pub Stopped-one : (fault : Fault) → TellsLate (Err fault) → (IsPickTime (Err fault) e → (q.sink ≡ p.sink) × (q.held ≡ p.held))
      → Puts (Err fault) → PickCause {T = Unit {0}} e.place p.sink q.sink (Err fault) → Stopped p q (e ∷ []) fault
  Stopped-one fault late untouched put cause = record {
    front = [];
    e = e;
    back = [];
    are = refl;
    in_time = refl;
    why = ⊎_elim
        (λ (is : (fault ≡ PickTime e.place) × (q.sink.faults ≡ p.sink.faults)).
        let told : IsPickTime (Err fault) e = ap Err is.0 in
        let same = untouched told in
        inl (record { late = late.0 told; is = is.0; text = λ behind has. rw (same.0, same.1) (puts-none p.sink p.held) }))
        (λ (is : (fault ≡ WriteFault) × Rose p.sink.faults q.sink.faults).
        inr (record {
          soon = soon-by (Err fault) late (λ other. let cut = is.0 in cc);
          is = is.0;
          text = λ behind has. rw append-nil ((put behind has).cuts (ap Err is.0));
        }))
        cause.failed;
  }
