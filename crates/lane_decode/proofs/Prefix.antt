-- Eight numbers and their sums.
use Rattle.std.proofs.Common.{rules, ◌≡◌, ◌+◌, ◌%◌, ◌^◌, ◌<◌, ◌≤◌, ◌++◌, [], ◌∷◌, ℕ, zero, suc, List, length, get_or, map, replicate, refl, ap, ◌∙◌, arith}
use Rattle.{std.{proofs.lemmas.{List.FromFn.fill_by_all, Simd.{length-zip2, get_or-zip2}}, specs.List.range_with_len}, lane_decode.specs.InColumns.sum_to}
use Rattle.lane_decode.proofs.Added.{sum-more}
use lib.Lanes.{zip2}

-- what holds of each place below 8
pub each-of-eight : (P : ℕ → Type 0) → P 0 → P 1 → P 2 → P 3 → P 4 → P 5 → P 6 → P 7 → (i : ℕ) → i < 8 → P i
each-of-eight P a b c d e f g h i lt = search (rules, arith)

-- eight numbers by their places
pub by-places : (xs : List ℕ) → length xs ≡ 8 → xs ≡ map (λ i. get_or xs i 0) (range_with_len 0 8)
by-places xs long = fill_by_all (λ i. get_or xs i 0) xs 8 0 long (λ k lt. refl)

abbrev pub plus : List ℕ → List ℕ → List ℕ
plus = zip2 (λ a b. (a + b) % 2 ^ 32)

pub length-plus : (xs ys : List ℕ) → length xs ≡ 8 → length ys ≡ 8 → length (plus xs ys) ≡ 8
length-plus xs ys long same = length-zip2 (λ a b. (a + b) % 2 ^ 32) xs ys (omega (arith, long, same)) ∙ long

pub plus-at : (xs ys : List ℕ) → length xs ≡ 8 → length ys ≡ 8 → (i : ℕ) → i < 8 → get_or xs i 0 + get_or ys i 0 < 2 ^ 32
    → get_or (plus xs ys) i 0 ≡ get_or xs i 0 + get_or ys i 0
plus-at xs ys long same i lt few = search (rules, arith, get_or-zip2)

-- numbers that others are put on at these places, where 8 puts nothing on
abbrev pub put-on : List ℕ → List ℕ → List ℕ
put-on ks xs = plus xs (map (λ k. get_or (xs ++ replicate 8 0) k 0) ks)

abbrev pub sums : List ℕ → List ℕ
sums xs =
    let twos = put-on (8 ∷ 0 ∷ 1 ∷ 2 ∷ 8 ∷ 4 ∷ 5 ∷ 6 ∷ []) xs in
    let fours = put-on (8 ∷ 8 ∷ 0 ∷ 1 ∷ 8 ∷ 8 ∷ 4 ∷ 5 ∷ []) twos in
    put-on (8 ∷ 8 ∷ 8 ∷ 8 ∷ 3 ∷ 3 ∷ 3 ∷ 3 ∷ []) fours

pub long-sums : (xs : List ℕ) → length xs ≡ 8 → length (sums xs) ≡ 8
long-sums xs long = ap (λ l. length (sums l)) (by-places xs long)

pub sums-are : (xs : List ℕ) → length xs ≡ 8 → ((i : ℕ) → i < 8 → get_or xs i 0 ≤ 2 ^ 25)
    → (i : ℕ) → i < 8 → get_or (sums xs) i 0 ≡ sum_to (λ k. get_or xs k 0) (i + 1)
unfolding sum_to
sums-are xs long few i lt =
    let f0 = few 0 (omega arith) in
    let f1 = few 1 (omega arith) in
    let f2 = few 2 (omega arith) in
    let f3 = few 3 (omega arith) in
    let f4 = few 4 (omega arith) in
    let f5 = few 5 (omega arith) in
    let f6 = few 6 (omega arith) in
    let f7 = few 7 (omega arith) in
    ap (λ l. get_or (sums l) i 0) (by-places xs long)
    ∙ each-of-eight (λ i. get_or (sums (map (λ i. get_or xs i 0) (range_with_len 0 8))) i 0 ≡ sum_to (λ k. get_or xs k 0) (i + 1))
    (omega (arith, f0))
    (omega (arith, f0, f1))
    (omega (arith, f0, f1, f2))
    (omega (arith, f0, f1, f2, f3))
    (omega (arith, f0, f1, f2, f3, f4))
    (omega (arith, f0, f1, f2, f3, f4, f5))
    (omega (arith, f0, f1, f2, f3, f4, f5, f6))
    (omega (arith, f0, f1, f2, f3, f4, f5, f6, f7)) i lt

-- the last of eight numbers, eight times
abbrev pub lasts : List ℕ → List ℕ
lasts xs = map (λ k. get_or (xs ++ xs) k 0) (replicate 8 7)

pub last-of : (xs : List ℕ) → length xs ≡ 8 → lasts xs ≡ replicate 8 (get_or xs 7 0)
last-of xs long = ap lasts (by-places xs long)

-- the sums of some numbers and of more after them
pub sum-behind : (f g : ℕ → ℕ) (a n : ℕ) → ((j : ℕ) → j < n → g j ≡ f (a + j)) → sum_to f (a + n) ≡ sum_to f a + sum_to g n
unfolding sum_to
sum-behind f g a zero same = let none : a + 0 ≡ a = omega arith in ap (sum_to f) none ∙ omega arith
sum-behind f g a (suc n) same =
    let next : a + suc n ≡ a + n + 1 = omega arith in
    let here : g n ≡ f (a + n) = same n (omega arith) in
    ap (sum_to f) next ∙ sum-more f (a + n) ∙ omega (arith, here, sum-behind f g a n (λ j lt. same j (omega (arith, lt))))
