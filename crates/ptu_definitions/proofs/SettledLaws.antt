-- Laws of the kept list and the settled list.
use Rattle.std.proofs.Common.{◌≡◌, ◌+◌, ◌<◌, ◌≤◌, ℕ, List, [], ◌∷◌, ◌++◌, Bool, true, false, cond, length, length-append, refl, sym, ap, ◌∙◌, append_assoc}
use Rattle.std.proofs.{Common.{append-nil, arith, nat_lt, ◌==◌, rules}, lemmas.List.Sorted.{IsPermutation-refl, IsPermutation-cons, IsPermutation-middle}}
use Rattle.std.proofs.lemmas.{List.{Sorted.{IsPermutation-trans, IsPermutation-append_left}, Elements.filter-append}, Bool.{ltb-true, ltb-false, eqb-true}}
use Rattle.{std.{proofs.lemmas.Bool.ne_eqb, specs.List.{filter, Sorted.{IsPermutation, IsNonDecreasingBy}}}, tally_base.specs.declared.event.Event.Event}
use Rattle.ptu_definitions.specs.{Prefixes.each_after, Settled.{later_than, is_overtaken, unless_overtaken, not_overtaken, put_in, put_all, in_time, Rises}}
use Rattle.ptu_definitions.proofs.SettledLemmas.{later_than-length, Rises-put_in, IsNonDecreasingBy-Rises}

-- Each once.
perm-pick : (b : Bool) (e x : Event) (xs ys : List Event) → IsPermutation (e ∷ xs) ys → IsPermutation (e ∷ x ∷ xs) (cond b (e ∷ x ∷ xs) (x ∷ ys))
perm-pick true e x xs ys h = IsPermutation-refl (e ∷ x ∷ xs)
perm-pick false e x xs ys h = IsPermutation-trans (e ∷ x ∷ xs) (x ∷ e ∷ xs) (x ∷ ys) (IsPermutation-middle (e ∷ []) x xs) (IsPermutation-cons x (e ∷ xs) ys h)

pub put_in-permutation : (e : Event) (xs : List Event) → IsPermutation (e ∷ xs) (put_in e xs)
put_in-permutation e [] = IsPermutation-refl (e ∷ [])
put_in-permutation e (x ∷ xs) = perm-pick (nat_lt e.time x.time) e x xs (put_in e xs) (put_in-permutation e xs)

pub put_all-permutation : (sorted es : List Event) → IsPermutation (sorted ++ es) (put_all sorted es)
put_all-permutation sorted [] = rw append-nil (IsPermutation-refl sorted)
put_all-permutation sorted (e ∷ es) =
    IsPermutation-trans (sorted ++ e ∷ es) (e ∷ (sorted ++ es)) (put_all (put_in e sorted) es)
    (IsPermutation-middle sorted e es)
    (IsPermutation-trans (e ∷ (sorted ++ es)) (put_in e sorted ++ es) (put_all (put_in e sorted) es)
    (IsPermutation-append_left es (e ∷ sorted) (put_in e sorted) (put_in-permutation e sorted))
    (put_all-permutation (put_in e sorted) es))

pub in_time-permutation : (k : ℕ) (es : List Event) → IsPermutation (not_overtaken k es) (in_time k es)
unfolding in_time
in_time-permutation k es = put_all-permutation [] (not_overtaken k es)

-- In order of time.
pub Rises-put_all : (sorted es : List Event) → Rises 0 sorted → Rises 0 (put_all sorted es)
Rises-put_all sorted [] up = up
Rises-put_all sorted (e ∷ es) up = Rises-put_all (put_in e sorted) es (Rises-put_in 0 e sorted (omega arith) up)

pub in_time-rises : (k : ℕ) (es : List Event) → Rises 0 (in_time k es)
unfolding in_time
in_time-rises k es = Rises-put_all [] (not_overtaken k es) tt

pub in_time-rising : (k : ℕ) (es : List Event) → IsNonDecreasingBy (λ (e : Event). e.time) (in_time k es)
in_time-rising k es = IsNonDecreasingBy-Rises 0 (in_time k es) (in_time-rises k es)

-- Those of equal time in file order.
abbrev at_time : ℕ → List Event → List Event
at_time t es = filter (λ e. e.time == t) es

skips : (b : Bool) (x : Event) (xs : List Event) → b ≡ false → xs ≡ [] → cond b (x ∷ xs) xs ≡ []
skips b x xs off none = rw off none

none_at : (t u : ℕ) (xs : List Event) → t < u → Rises u xs → at_time t xs ≡ []
none_at t u [] h up = refl
none_at t u (x ∷ xs) h up = search (rules, arith, ne_eqb, skips, at_time, none_at t x.time xs (omega arith) up.1)

-- an event that is before all others or has another time
front_pick : (t : ℕ) (b : Bool) (e : Event) (xs : List Event) → (e.time == t) ≡ b → (b ≡ true → at_time t xs ≡ [])
    → cond b (e ∷ at_time t xs) (at_time t xs) ≡ at_time t xs ++ cond b (e ∷ []) []
front_pick t b e xs is none = search (rules, arith, append-nil, at_time)

stable_pick : (t : ℕ) (b : Bool) (e x : Event) (xs ys : List Event) → nat_lt e.time x.time ≡ b → Rises x.time xs
    → (x.time ≤ e.time → at_time t ys ≡ at_time t (xs ++ e ∷ [])) → at_time t (cond b (e ∷ x ∷ xs) (x ∷ ys)) ≡ at_time t ((x ∷ xs) ++ e ∷ [])
stable_pick t b e x xs ys is up rest = search (rules, arith, ltb-true, front_pick, none_at, eqb-true, filter-append, ltb-false)

pub put_in-stable : (t u : ℕ) (e : Event) (xs : List Event) → Rises u xs → at_time t (put_in e xs) ≡ at_time t (xs ++ e ∷ [])
put_in-stable t u e [] up = refl
put_in-stable t u e (x ∷ xs) up = stable_pick t (nat_lt e.time x.time) e x xs (put_in e xs) refl up.1 (λ le. put_in-stable t x.time e xs up.1)

put_all-stable : (t : ℕ) (sorted es : List Event) → Rises 0 sorted → at_time t (put_all sorted es) ≡ at_time t (sorted ++ es)
put_all-stable t sorted [] up = ap (at_time t) (sym (append-nil sorted))
put_all-stable t sorted (e ∷ es) up =
    put_all-stable t (put_in e sorted) es (Rises-put_in 0 e sorted (omega arith) up)
    ∙ filter-append (λ (y : Event). y.time == t) (put_in e sorted) es
    ∙ ap (λ l. l ++ at_time t es) (put_in-stable t 0 e sorted up)
    ∙ sym (filter-append (λ (y : Event). y.time == t) (sorted ++ e ∷ []) es)
    ∙ ap (at_time t) (append_assoc sorted (e ∷ []) es)

pub in_time-stable : (k t : ℕ) (es : List Event) → filter (λ (e : Event). e.time == t) (in_time k es) ≡ filter (λ (e : Event). e.time == t) (not_overtaken k es)
unfolding in_time
in_time-stable k t es = put_all-stable t [] (not_overtaken k es) tt

-- Where there are few events, none is late.
few_pick : (k : ℕ) (c : Bool) (before : List Event) (e : Event) → is_overtaken k before e ≡ c
    → length before ≤ k → ◌≡◌ {A = List Event} (cond c [] (e ∷ [])) (e ∷ [])
few_pick k true before e is few = let most : later_than e.time before ≤ length before =
    later_than-length e.time before in let more : k < later_than e.time before = ltb-true k (later_than e.time before) is in absurd (omega arith)
few_pick k false before e is few = refl

few-after : (k : ℕ) (before es : List Event) → length before + length es ≤ k + 1 → each_after (unless_overtaken k) before es ≡ es
few-after k before [] few = refl
few-after k before (e ∷ es) few =
    let here : unless_overtaken k before e ≡ e ∷ [] = few_pick k (is_overtaken k before e) before e refl (omega arith) in
    let more : length (before ++ e ∷ []) ≡ length before + 1 = length-append before (e ∷ []) in
    rw here (ap (λ l. e ∷ l) (few-after k (before ++ e ∷ []) es (omega arith)))

pub all-in_time : (k : ℕ) (es : List Event) → length es ≤ k + 1 → not_overtaken k es ≡ es
unfolding not_overtaken
all-in_time k es few = few-after k [] es (omega (arith, few))
