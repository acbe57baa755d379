-- Lists in order of time, and one event more.
use Rattle.std.proofs.Common.{◌≡◌, ◌+◌, ◌-◌, ◌<◌, ◌≤◌, ℕ, zero, suc, List, [], ◌∷◌, ◌++◌, Bool, true, false, cond, length, get_or, refl, sym, ap, subst, ◌∙◌}
use Rattle.std.proofs.{Common.{append-nil, arith, nat_lt, rules}, lemmas.{Bool.{ltb-true, ltb-false}, List.Sums.{sum_by_push, sum_by-cons}, Grind.common_steps}}
use Rattle.{std.specs.List.{AllByRecursion, AllWithin, insert, remove, Sorted.IsNonDecreasingBy}, tally_base.specs.declared.event.Event.Event}
use Rattle.ptu_definitions.specs.Settled.{later_than, is_overtaken, unless_overtaken, not_overtaken, put_in, put_all, in_time, Rises}
use Rattle.ptu_definitions.proofs.PrefixLemmas.{each-push}

pub later_than-push : (t : ℕ) (es : List Event) (e : Event) → later_than t (es ++ e ∷ []) ≡ later_than t es + cond (nat_lt t e.time) 1 0
later_than-push t es e = sum_by_push (λ (x : Event). cond (nat_lt t x.time) 1 0) es e

pub later_than-cons : (t : ℕ) (x : Event) (xs : List Event) → later_than t (x ∷ xs) ≡ cond (nat_lt t x.time) 1 0 + later_than t xs
later_than-cons t x xs = sum_by-cons (λ (y : Event). cond (nat_lt t y.time) 1 0) x xs

add_past : (a b c n : ℕ) → n ≡ b + c → a + n ≡ b + (a + c)
add_past a b c n h = omega arith

-- nothing is lost or added where an event is put in
later-pick : (t : ℕ) (b : Bool) (e x : Event) (xs ys : List Event) → later_than t ys ≡ later_than t (e ∷ xs)
    → later_than t (cond b (e ∷ x ∷ xs) (x ∷ ys)) ≡ later_than t (e ∷ x ∷ xs)
later-pick t true e x xs ys h = refl
later-pick t false e x xs ys h = search (rules, arith, later_than-cons, add_past)

pub later_than-put_in : (t : ℕ) (e : Event) (xs : List Event) → later_than t (put_in e xs) ≡ later_than t (e ∷ xs)
later_than-put_in t e [] = refl
later_than-put_in t e (x ∷ xs) = later-pick t (nat_lt e.time x.time) e x xs (put_in e xs) (later_than-put_in t e xs)

length-pick : (b : Bool) (e x : Event) (xs ys : List Event) → length ys ≡ length xs + 1 → length (cond b (e ∷ x ∷ xs) (x ∷ ys)) ≡ length (x ∷ xs) + 1
length-pick b e x xs ys h = search (rules, arith)

pub length-put_in : (e : Event) (xs : List Event) → length (put_in e xs) ≡ length xs + 1
length-put_in e [] = refl
length-put_in e (x ∷ xs) = length-pick (nat_lt e.time x.time) e x xs (put_in e xs) (length-put_in e xs)

-- order stays
Rises-pick : (t : ℕ) (b : Bool) (e x : Event) (xs ys : List Event) → nat_lt e.time x.time ≡ b → t ≤ e.time
    → t ≤ x.time → Rises x.time xs → (x.time ≤ e.time → Rises x.time ys) → Rises t (cond b (e ∷ x ∷ xs) (x ∷ ys))
Rises-pick t b e x xs ys is at_e at_x up put = search (rules, arith, ltb-true, ltb-false)

pub Rises-put_in : (t : ℕ) (e : Event) (xs : List Event) → t ≤ e.time → Rises t xs → Rises t (put_in e xs)
Rises-put_in t e [] at_e up = (at_e, tt)
Rises-put_in t e (x ∷ xs) at_e up = Rises-pick t (nat_lt e.time x.time) e x xs (put_in e xs) refl at_e up.0 up.1 (λ h. Rises-put_in x.time e xs h up.1)

pub Rises-lower : (t u : ℕ) (xs : List Event) → u ≤ t → Rises t xs → Rises u xs
Rises-lower t u [] h up = tt
Rises-lower t u (x ∷ xs) h up = (omega (arith, up.0), up.1)

-- an event comes after all that are no later
pass-pick : (b : Bool) (e x : Event) (xs ys zs : List Event) → nat_lt e.time x.time ≡ b → x.time ≤ e.time → zs ≡ ys → cond b (e ∷ x ∷ xs) (x ∷ zs) ≡ x ∷ ys
pass-pick b e x xs ys zs is le same = search (rules, arith, ltb-true)

pub put_in-append : (e : Event) (front back : List Event) → AllByRecursion (λ x. x.time ≤ e.time) front → put_in e (front ++ back) ≡ front ++ put_in e back
put_in-append e [] back all = refl
put_in-append e (x ∷ front) back all = search (rules, arith, pass-pick, put_in-append e front back all.1)

none_later : (t : ℕ) (b : Bool) (x : Event) → nat_lt t x.time ≡ b → x.time ≤ t → ◌≡◌ {A = ℕ} (cond b 1 0) 0
none_later t true x is h = let lt : t < x.time = ltb-true t x.time is in absurd (omega arith)
none_later t false x is h = refl

pub is_no_later : (t : ℕ) (x : Event) → x.time ≤ t → ◌≡◌ {A = ℕ} (cond (nat_lt t x.time) 1 0) 0
is_no_later t x h = none_later t (nat_lt t x.time) x refl h

add_one_more : (a b n : ℕ) → a ≡ 1 → b ≡ n → a + b ≡ suc n
add_one_more a b n one rest = omega arith

pub all_later : (t u : ℕ) (xs : List Event) → u < t → Rises t xs → later_than u xs ≡ length xs
all_later t u [] h up = refl
all_later t u (x ∷ xs) h up = grind (arith, common_steps, later_than-cons, add_one_more, all_later x.time u xs)

at_most_one : (b : Bool) → cond b 1 0 ≤ 1
at_most_one b = search (rules, arith)

add_at_most : (a b n : ℕ) → a ≤ 1 → b ≤ n → a + b ≤ suc n
add_at_most a b n one rest = omega arith

pub later_than-length : (t : ℕ) (xs : List Event) → later_than t xs ≤ length xs
later_than-length t [] = omega arith
later_than-length t (x ∷ xs) = search (rules, arith, later_than-cons, add_at_most, at_most_one, later_than-length t xs)

-- The events in order of time and one more event.
pub put_all-push : (sorted es : List Event) (e : Event) → put_all sorted (es ++ e ∷ []) ≡ put_in e (put_all sorted es)
put_all-push sorted [] e = refl
put_all-push sorted (x ∷ es) e = put_all-push (put_in x sorted) es e

pub not_overtaken-push : (k : ℕ) (es : List Event) (e : Event) → not_overtaken k (es ++ e ∷ []) ≡ not_overtaken k es ++ unless_overtaken k es e
unfolding not_overtaken
not_overtaken-push k es e = each-push (unless_overtaken k) es e

pub in_time-late : (k : ℕ) (es : List Event) (e : Event) → is_overtaken k es e ≡ true → in_time k (es ++ e ∷ []) ≡ in_time k es
unfolding in_time
in_time-late k es e late = ap (put_all []) (not_overtaken-push k es e) ∙ rw (late, append-nil) refl

pub in_time-push : (k : ℕ) (es : List Event) (e : Event) → is_overtaken k es e ≡ false → in_time k (es ++ e ∷ []) ≡ put_in e (in_time k es)
unfolding in_time
in_time-push k es e late = ap (put_all []) (not_overtaken-push k es e) ∙ rw late (put_all-push [] (not_overtaken k es) e)

-- Order by the place in a list.
Rises-at : (t : ℕ) (xs : List Event) (k : ℕ) (d : Event) → Rises t xs → k < length xs → t ≤ (get_or xs k d).time
Rises-at t [] k d up h = absurd (omega arith)
Rises-at t (x ∷ xs) zero d up h = up.0
Rises-at t (x ∷ xs) (suc k) d up h = let rest : x.time ≤ (get_or xs k d).time = Rises-at x.time xs k d up.1 (omega arith) in omega (arith, up.0)

pub IsNonDecreasingBy-Rises : (t : ℕ) (xs : List Event) → Rises t xs → IsNonDecreasingBy (λ (x : Event). x.time) xs
IsNonDecreasingBy-Rises t [] up i j d le h = absurd (omega arith)
IsNonDecreasingBy-Rises t (x ∷ xs) up zero zero d le h = omega arith
IsNonDecreasingBy-Rises t (x ∷ xs) up zero (suc j) d le h = Rises-at x.time xs j d up.1 (omega arith)
IsNonDecreasingBy-Rises t (x ∷ xs) up (suc i) zero d le h = absurd (omega arith)
IsNonDecreasingBy-Rises t (x ∷ xs) up (suc i) (suc j) d le h = IsNonDecreasingBy-Rises x.time xs up.1 i j d (omega arith) (omega arith)

pub Rises-IsNonDecreasingBy : (t : ℕ) (xs : List Event) → IsNonDecreasingBy (λ (x : Event). x.time) xs
    → ((d : Event) → 0 < length xs → t ≤ (get_or xs 0 d).time) → Rises t xs
Rises-IsNonDecreasingBy t [] up low = tt
Rises-IsNonDecreasingBy t (x ∷ xs) up low =
    (low x (omega arith), Rises-IsNonDecreasingBy x.time xs (λ i j d le h. up (suc i) (suc j) d (omega arith) (omega arith)) (λ d h. up 0 1 d (omega arith) (omega arith)))

first-pick : (b : Bool) (e x : Event) (xs : List Event) → nat_lt e.time x.time ≡ b → e.time < x.time → cond b (e ∷ x ∷ xs) (x ∷ put_in e xs) ≡ e ∷ x ∷ xs
first-pick b e x xs is lt = search (rules, arith, ltb-false)

-- an insert after all that are no later
pub insert-put_in : (e : Event) (xs : List Event) (at : ℕ) → at ≤ length xs → AllWithin (λ (x : Event). x.time ≤ e.time) xs 0 at
    → AllWithin (λ (x : Event). e.time < x.time) xs at (length xs) → insert xs at e ≡ put_in e xs
insert-put_in e [] zero h before after = refl
insert-put_in e [] (suc at) h before after = absurd (omega arith)
insert-put_in e (x ∷ xs) zero h before after = sym (first-pick (nat_lt e.time x.time) e x xs refl (after 0 x (omega arith) (omega arith)))
insert-put_in e (x ∷ xs) (suc at) h before after =
    ap (λ l. x ∷ l) (insert-put_in e xs at (omega arith) (λ k d low high. before (suc k) d (omega arith) (omega arith))
    (λ k d low high. after (suc k) d (omega arith) (omega arith)))
    ∙ sym (pass-pick (nat_lt e.time x.time) e x xs (put_in e xs) (put_in e xs) refl (before 0 x (omega arith) (omega arith)) refl)

pub put_in-rising : (e : Event) (xs : List Event) → IsNonDecreasingBy (λ (x : Event). x.time) xs → IsNonDecreasingBy (λ (x : Event). x.time) (put_in e xs)
put_in-rising e xs up = IsNonDecreasingBy-Rises 0 (put_in e xs) (Rises-put_in 0 e xs (omega arith) (Rises-IsNonDecreasingBy 0 xs up (λ d h. omega arith)))

-- an event that goes after the first, where the first is taken out
pub insert-rest : (e : Event) (xs : List Event) (at : ℕ) (x : Event) → 0 < at → at ≤ length xs → x ≡ get_or xs 0 x → AllWithin (λ (x : Event). x.time ≤ e.time) xs 0 at → AllWithin (λ (x : Event). e.time < x.time) xs at (length xs) → x ∷ insert (remove xs 0) (at - 1) e ≡ put_in e xs
insert-rest e [] at x pos h is before after = absurd (omega arith)
insert-rest e (y ∷ xs) zero x pos h is before after = absurd (omega arith)
insert-rest e (y ∷ xs) (suc at) x pos h is before after =
    let less : suc at - 1 ≡ at = omega arith in
    rw (is, less) (insert-put_in e (y ∷ xs) (suc at) h before after)

pub rising-tail : (e : Event) (xs : List Event) (x : Event) (rest : List Event)
    → IsNonDecreasingBy (λ (x : Event). x.time) xs → x ∷ rest ≡ put_in e xs → IsNonDecreasingBy (λ (x : Event). x.time) rest
rising-tail e xs x rest up is =
    let P : List Event → Type 0 = λ l. IsNonDecreasingBy (λ (x : Event). x.time) l in
    let all : P (x ∷ rest) = subst P (sym is) (put_in-rising e xs up) in
    λ i j d le h. all (suc i) (suc j) d (omega arith) (omega arith)
