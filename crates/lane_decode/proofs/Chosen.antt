-- Places that stay, eight at a time.
use Rattle.std.proofs.Common.{rules, ◌≡◌, ◌+◌, ◌<◌, ◌≤◌, ◌++◌, [], ◌∷◌, ℕ, zero, suc, List, Bool, true, false, length, map, take, get_or, replicate, cond, refl}
use Rattle.std.proofs.{Common.{sym, ap, subst, ◌∙◌, arith, ltb}, lemmas.List.FromFn.{get_or-map-range_with_len, length-range_with_len}}
use Rattle.std.proofs.lemmas.{List.{Elements.filter-append, get_or-map, get_or-take, Sums.{length-filter, count_by-le-length}}, Simd.get_or-replicate}
use Rattle.std.{proofs.lemmas.Bool.{and_parts, leb-true, ltb-true}, specs.{Prelude.{count_ones, ◌&&◌, nat_le}, List.{filter, range_with_len}}}
use Rattle.lane_decode.specs.Staying.{has_bit, bits_in}
use lib.Count.{ones}
use lib.Lanes.{Each1, all_below}

-- what holds of each number below 256
pub each : {X : Type 0} (f : ℕ → X) (x d : X) → map f (range_with_len 0 256) ≡ replicate 256 x → (m : ℕ) → m < 256 → f m ≡ x
each f x d all m lt = sym (get_or-map-range_with_len f 0 256 m m d lt (omega arith)) ∙ ap (λ t. get_or t m d) all ∙ get_or-replicate 256 m x d lt

pub below-all : (n : ℕ) (ks : List ℕ) → all_below n ks ≡ true → Each1 (λ j. j < n) ks
below-all n [] t = tt
below-all n (k ∷ ks) t = search (rules, arith, ltb-true, below-all n ks (and_parts (ltb k n) (all_below n ks) t).1)

bits_few : map (λ m. nat_le (length (bits_in m)) 8) (range_with_len 0 256) ≡ replicate 256 true
unfolding bits_in has_bit
bits_few = refl

bits_below : map (λ m. all_below 8 (bits_in m)) (range_with_len 0 256) ≡ replicate 256 true
unfolding bits_in has_bit
bits_below = refl

bits_ones : map (λ m. count_ones m) (range_with_len 0 256) ≡ map (λ m. length (bits_in m)) (range_with_len 0 256)
unfolding bits_in has_bit ones
bits_ones = refl

module _ (bits : ℕ) (lt : bits < 256) where
  pub few-bits : length (bits_in bits) ≤ 8
  few-bits = leb-true _ _ (each (λ m. nat_le (length (bits_in m)) 8) true false bits_few bits lt)

  pub below-bits : Each1 (λ j. j < 8) (bits_in bits)
  below-bits = below-all 8 (bits_in bits) (each (λ m. all_below 8 (bits_in m)) true false bits_below bits lt)

  pub ones-bits : count_ones bits ≡ length (bits_in bits)
  ones-bits =
      sym (get_or-map-range_with_len (λ m. count_ones m) 0 256 bits bits 0 lt (omega arith)) ∙ ap (λ t. get_or t bits 0) bits_ones
      ∙ get_or-map-range_with_len (λ m. length (bits_in m)) 0 256 bits bits 0 lt (omega arith)

range-append : (a n m : ℕ) → range_with_len a (n + m) ≡ range_with_len a n ++ range_with_len (a + n) m
range-append a zero m = search (rules, arith)
range-append a (suc n) m =
    let more : suc n + m ≡ suc (n + m) = omega arith in
    let same : a + 1 + n ≡ a + suc n = omega arith in
    ap (range_with_len a) more ∙ ap (λ l. a ∷ l) (range-append (a + 1) n m ∙ ap (λ k. range_with_len (a + 1) n ++ range_with_len k m) same)

filter-shift : (f g : ℕ → Bool) (a b n : ℕ) → ((j : ℕ) → b ≤ j → j < b + n → f (a + j) ≡ g j)
    → filter f (range_with_len (a + b) n) ≡ map (λ i. a + i) (filter g (range_with_len b n))
filter-shift f g a b zero same = refl
filter-shift f g a b (suc n) same =
    let rest = filter-shift f g a (b + 1) n (λ j le lt. same j (omega (arith, le)) (omega (arith, lt))) in
    let here : f (a + b) ≡ g b = same b (omega arith) (omega arith) in
    let next : a + (b + 1) ≡ a + b + 1 = omega arith in
    rw here (by_case (g b) (subst (λ k. filter f (range_with_len k n) ≡ map (λ i. a + i) (filter g (range_with_len (b + 1) n))) next rest))
  where
    by_case : (x : Bool) → filter f (range_with_len (a + b + 1) n) ≡ map (λ i. a + i) (filter g (range_with_len (b + 1) n))
        → cond x ((a + b) ∷ filter f (range_with_len (a + b + 1) n)) (filter f (range_with_len (a + b + 1) n)) ≡ map
        (λ i. a + i) (cond x (b ∷ filter g (range_with_len (b + 1) n)) (filter g (range_with_len (b + 1) n)))
    by_case true is = ap (λ l. (a + b) ∷ l) is
    by_case false is = is

-- eight more
pub stay-more : (f : ℕ → Bool) (a bits : ℕ) → ((i : ℕ) → i < 8 → has_bit bits i ≡ f (a + i))
    → filter f (range_with_len 0 (a + 8)) ≡ filter f (range_with_len 0 a) ++ map (λ i. a + i) (bits_in bits)
unfolding bits_in
stay-more f a bits same =
    let from : 0 + a ≡ a + 0 = omega arith in
    ap (filter f) (range-append 0 a 8) ∙ filter-append f (range_with_len 0 a) (range_with_len (0 + a) 8)
    ∙ ap (λ l. filter f (range_with_len 0 a) ++ l)
    (ap (λ k. filter f (range_with_len k 8)) from ∙ filter-shift f (has_bit bits) a 0 8 (λ j le lt. sym (same j (omega (arith, lt)))))

pub few-staying : (f : ℕ → Bool) (n : ℕ) → length (filter f (range_with_len 0 n)) ≤ n
few-staying f n = omega (arith, length-filter f (range_with_len 0 n), count_by-le-length f (range_with_len 0 n), length-range_with_len 0 n)

-- one place more
pub place-more : (f : ℕ → Bool) (n : ℕ) → filter f (range_with_len 0 (n + 1)) ≡ filter f (range_with_len 0 n) ++ cond (f n) (n ∷ []) []
place-more f n = search (rules, arith, range-append, filter-append)

-- none of the places is too great
pub place-below : (f : ℕ → Bool) (a n j : ℕ) → j < length (filter f (range_with_len a n)) → get_or (filter f (range_with_len a n)) j 0 < a + n
place-below f a zero j lt = absurd (omega (arith, lt))
place-below f a (suc n) j lt = by_case (f a) j (λ i few. omega (arith, place-below f (a + 1) n i few)) lt
  where
    by_case : (x : Bool) (j : ℕ) → ((i : ℕ) → i < length (filter f (range_with_len (a + 1) n)) → get_or (filter f (range_with_len (a + 1) n)) i 0 < a + suc n)
        → j < length (cond x (a ∷ filter f (range_with_len (a + 1) n)) (filter f (range_with_len (a + 1) n)))
        → get_or (cond x (a ∷ filter f (range_with_len (a + 1) n)) (filter f (range_with_len (a + 1) n))) j 0 < a + suc n
    by_case true zero rest few = omega arith
    by_case true (suc i) rest few = rest i (omega (arith, few))
    by_case false j rest few = rest j few

-- a list by its places
pub map-places : {X : Type 0} (f g : ℕ → X) (ks : List ℕ) (a : ℕ)
    → ((j : ℕ) → j < length ks → f (a + j) ≡ g (get_or ks j 0)) → map f (range_with_len a (length ks)) ≡ map g ks
map-places f g [] a same = refl
map-places f g (k ∷ ks) a same =
    let first : a ≡ a + 0 = omega arith in
    let here : f a ≡ g k = ap f first ∙ same 0 (omega arith) in
    let rest = map-places f g ks (a + 1) (λ j lt.
    let next : a + 1 + j ≡ a + suc j = omega arith in
    ap f next ∙ same (suc j) (omega (arith, lt))) in
    rw here (ap (λ l. g k ∷ l) rest)

-- what is put at a place is of the place that it has in the columns
pub at-stayed : (h : ℕ → ℕ) (xs ks : List ℕ) (len j : ℕ) → take len xs ≡ map h ks → j < len → j < length ks → get_or xs j 0 ≡ h (get_or ks j 0)
at-stayed h xs ks len j is lt few = sym (get_or-take len xs j 0 lt) ∙ ap (λ l. get_or l j 0) is ∙ get_or-map h ks j 0 0 few
