-- What is settled, one event after another.
use Rattle.std.proofs.Common.{◌≡◌, ◌+◌, ◌-◌, ◌<◌, ◌≤◌, ℕ, List, [], ◌∷◌, ◌++◌, true, false, length, refl, sym, ap, subst, ◌∙◌, append_assoc, length-append}
use Rattle.std.proofs.{Common.{arith, ⊎_elim, rules}, lemmas.{Bool.{cases_lt, lt-ltb, le-ltb}, Grind.common_steps}, Math.Seq.take-append_seam}
use Rattle.{std.{proofs.Math.Seq.drop-append_seam, specs.List.AllByRecursion}, tally_base.specs.declared.event.Event.Event}
use Rattle.ptu_definitions.specs.Settled.{later_than, is_overtaken, put_in, in_time, without_last, last_of, marked_as, settles, Rises, IsOpen}
use Rattle.ptu_definitions.proofs.SettledLemmas.{later_than-push, later_than-cons, later_than-put_in, length-put_in, Rises-put_in, put_in-append, is_no_later}
use Rattle.ptu_definitions.proofs.SettledLemmas.{all_later, later_than-length, in_time-late, in_time-push}

-- Facts of each event of a list.
pub each-put_in : (P : Event → Type 0) (e : Event) (xs : List Event) → P e → AllByRecursion P xs → AllByRecursion P (put_in e xs)
each-put_in P e [] p all = (p, tt)
each-put_in P e (x ∷ xs) p all = search (rules, arith, each-put_in P e xs p all.1)

pub each-weaker : (P Q : Event → Type 0) (xs : List Event) → ((x : Event) → P x → Q x) → AllByRecursion P xs → AllByRecursion Q xs
each-weaker P Q [] f all = tt
each-weaker P Q (x ∷ xs) f all = (f x all.0, each-weaker P Q xs f all.1)

pub all-push : (P : Event → Type 0) (xs : List Event) (x : Event) → AllByRecursion P xs → P x → AllByRecursion P (xs ++ x ∷ [])
all-push P [] x all p = (p, tt)
all-push P (y ∷ xs) x all p = (all.0, all-push P xs x all.1 p)

-- Which events are late.
pub is_late : (k : ℕ) (es g w : List Event) (last : ℕ) (e : Event) → IsOpen k es g w last → e.time < last → is_overtaken k es e ≡ true
is_late k es g w last e now h = lt-ltb k (later_than e.time es) (now.below e.time h)

pub is_not_late : (k : ℕ) (es g w : List Event) (last : ℕ) (e : Event) → IsOpen k es g w last → length w ≤ k → last ≤ e.time → is_overtaken k es e ≡ false
is_not_late k es g w last e now few h = le-ltb k (later_than e.time es) (omega (arith, now.above e.time h, later_than-length e.time w))

-- The kept list is what is settled and what waits.
pub joined-late : (k : ℕ) (es g w : List Event) (e : Event) → is_overtaken k es e ≡ true → g ++ w ≡ in_time k es → g ++ w ≡ in_time k (es ++ e ∷ [])
joined-late k es g w e late joined = joined ∙ sym (in_time-late k es e late)

pub joined-put : (k : ℕ) (es g w : List Event) (last : ℕ) (e : Event) → is_overtaken k es e ≡ false
    → IsOpen k es g w last → last ≤ e.time → g ++ w ≡ in_time k es → g ++ put_in e w ≡ in_time k (es ++ e ∷ [])
joined-put k es g w last e late now h joined = search (rules, arith, put_in-append, each-weaker, in_time-push)

-- the first that waits is settled
pub joined-give : (k : ℕ) (es g w rest : List Event) (x : Event) → w ≡ x ∷ rest → g ++ w ≡ in_time k es → (g ++ x ∷ []) ++ rest ≡ in_time k es
joined-give k es g w rest x is joined = append_assoc g (x ∷ []) rest ∙ ap (λ l. g ++ l) (sym is) ∙ joined

-- What holds as long as the list goes on.
above-push : (es w : List Event) (e : Event) (t : ℕ) → later_than t es ≡ later_than t w → later_than t (es ++ e ∷ []) ≡ later_than t (put_in e w)
above-push es w e t h = search (rules, arith, later_than-push, later_than-cons, later_than-put_in)

below-push : (k : ℕ) (es : List Event) (e : Event) (t : ℕ) → k < later_than t es → k < later_than t (es ++ e ∷ [])
below-push k es e t h = omega (arith, later_than-push t es e)

pub open-none : (k : ℕ) → IsOpen k [] [] [] 0
open-none k = record { rising = tt; early = tt; full = λ less. refl; above = λ t le. refl; below = λ t lt. absurd (omega arith) }

pub open-late : (k : ℕ) (es g w : List Event) (last : ℕ) (e : Event) → IsOpen k es g w last → e.time < last → IsOpen k (es ++ e ∷ []) g w last
open-late k es g w last e now h = record {
  rising = now.rising;
  early = now.early;
  full = now.full;
  above = λ t le.
      let lt : e.time ≤ t = omega arith in
      omega (arith, later_than-push t es e, is_no_later t e lt, now.above t le);
  below = λ t lt. below-push k es e t (now.below t lt);
}

pub open-wait : (k : ℕ) (es g w : List Event) (last : ℕ) (e : Event) → IsOpen k es g w last
    → last ≤ e.time → length w < k → IsOpen k (es ++ e ∷ []) g (put_in e w) last
open-wait k es g w last e now h few = record {
  rising = Rises-put_in last e w h now.rising;
  early = now.early;
  full = λ less. now.full few;
  above = λ t le. above-push es w e t (now.above t le);
  below = λ t lt. below-push k es e t (now.below t lt);
}

pub open-emit : (k : ℕ) (es g w rest : List Event) (last : ℕ) (e x : Event) → IsOpen k es g w last
    → last ≤ e.time → length w ≡ k → put_in e w ≡ x ∷ rest → IsOpen k (es ++ e ∷ []) (g ++ x ∷ []) rest x.time
open-emit k es g w rest last e x now h full is =
    let up : Rises last (x ∷ rest) = subst (Rises last) is (Rises-put_in last e w h now.rising) in
    let least : last ≤ x.time = up.0 in
    let count : length (x ∷ rest) ≡ length w + 1 = ap length (sym is) ∙ length-put_in e w in
    let same : (t : ℕ) → last ≤ t → later_than t (es ++ e ∷ []) ≡ later_than t (x ∷ rest) =
    λ t le. above-push es w e t (now.above t le) ∙ ap (later_than t) is in
    record {
      rising = up.1;
      early = all-push (λ y. y.time ≤ x.time) g x (each-weaker (λ y. y.time ≤ last) (λ y. y.time ≤ x.time) g (λ y le. omega arith) now.early) (omega arith);
      full = λ less. absurd (omega arith);
      above = λ t le. same t (omega arith) ∙ later_than-cons t x rest ∙ rw (is_no_later t x le) (omega arith);
      below = λ t lt. ⊎_elim
          (λ early. below-push k es e t (now.below t early))
          (λ late.
          let all : later_than t (x ∷ rest) ≡ length (x ∷ rest) = all_later x.time t (x ∷ rest) lt (omega arith, up.1) in
          omega (arith, same t late))
          (cases_lt t last);
    }

-- What is settled is the kept list without its last k events.
seam : (g w : List Event) → length (g ++ w) - length w ≡ length g
seam g w = omega (arith, length-append g w)

none_settled : (k n : ℕ) (w : List Event) → length w ≤ k → length w - k ≡ 0
none_settled k n w few = omega arith

pub settled-is : (k : ℕ) (es g w : List Event) (last : ℕ) → IsOpen k es g w last → length w ≤ k → g ++ w ≡ in_time k es → without_last k (in_time k es) ≡ g
settled-is k es g w last now few joined = grind (arith, common_steps, none_settled, seam, take-append_seam, cases_lt)

pub waits-is : (k : ℕ) (es g w : List Event) (last : ℕ) → IsOpen k es g w last → length w ≤ k → g ++ w ≡ in_time k es → last_of k (in_time k es) ≡ w
waits-is k es g w last now few joined = grind (arith, common_steps, none_settled, seam, drop-append_seam, cases_lt)

-- What one event more settles.
pub settles-late : (k : ℕ) (es : List Event) (e : Event) → is_overtaken k es e ≡ true → settles k es e ≡ (e, true) ∷ []
settles-late k es e late = rw late refl

pub settles-more : (k : ℕ) (es : List Event) (e : Event) (g more : List Event) → is_overtaken k es e ≡ false → without_last k (in_time k es) ≡ g
    → without_last k (in_time k (es ++ e ∷ [])) ≡ g ++ more → settles k es e ≡ marked_as false more
settles-more k es e g more late before now = rw (late, before, now, drop-append_seam) refl
