-- Sums over numbers, and what is counted by a number: in a range and after it is all.
use Rattle.std.proofs.Common.{rules, ◌≡◌, ◌∙◌, ℕ, zero, suc, ◌+◌, ◌<◌, ◌≤◌, Bool, true, false, ◌&&◌, cond, eqb, leb, List, [], ◌∷◌, refl, ap, arith, ltb, ◌++◌}
use Rattle.std.proofs.{Common.{length, take, drop, ◌*◌, ◌/◌, ◌%◌, sym}, lemmas.{Grind.common_steps, Bool.Decides.nat_tests, List.Sums.sum_by-cons}}
use Rattle.std.proofs.Math.Nat.{div-eq_of_lt-le, div-add-mod, lt_of_mul-lt-mul_left, mul-le-mul_left, mul-le-mul_right, mul-lt-mul_of_pos_right}
use Rattle.std.{proofs.Math.Nat.{lt-mul-div-succ, mul-div-le, mod-lt}, specs.List.{count_by, sum_by, range_with_len}}

pub sum_same : {X : Type 0} (f g : X → ℕ) → ((x : X) → f x ≡ g x) → (xs : List X) → sum_by f xs ≡ sum_by g xs
sum_same f g same [] = refl
sum_same f g same (x ∷ xs) = omega (arith, sum_same f g same xs, same x, sum_by-cons f x xs, sum_by-cons g x xs)

pub sum_plus : {X : Type 0} (f g : X → ℕ) (xs : List X) → sum_by (λ x. f x + g x) xs ≡ sum_by f xs + sum_by g xs
sum_plus f g [] = refl
sum_plus f g (x ∷ xs) = omega (arith, sum_plus f g xs, sum_by-cons (λ x. f x + g x) x xs, sum_by-cons f x xs, sum_by-cons g x xs)

pub sum_none : {X : Type 0} (xs : List X) → sum_by (λ x. 0) xs ≡ 0
sum_none [] = refl
sum_none {X = X} (x ∷ xs) = omega (arith, sum_none xs, sum_by-cons {X = X} (λ x. 0) x xs)

-- tests that agree count the same
pub count_same : {X : Type 0} (p q : X → Bool) → ((x : X) → p x ≡ q x) → (xs : List X) → count_by p xs ≡ count_by q xs
count_same p q same = sum_same (λ x. cond (p x) 1 0) (λ x. cond (q x) 1 0) (λ x. ap (λ b. cond b 1 0) (same x))

pub count_none : {X : Type 0} (p : X → Bool) → ((x : X) → p x ≡ false) → (xs : List X) → count_by p xs ≡ 0
count_none p none xs = count_same p (λ x. false) none xs ∙ sum_none xs

-- each that passes the last test passes one of the first two, and none passes both
pub count_parts : {X : Type 0} (p q r : X → Bool) → ((x : X) → cond (p x) 1 0 + cond (q x) 1 0 ≡ cond (r x) 1 0)
    → (xs : List X) → count_by p xs + count_by q xs ≡ count_by r xs
count_parts p q r parts [] = refl
count_parts p q r parts (x ∷ xs) = search (rules, arith, parts, sum_by-cons, count_parts p q r parts xs)

-- a number is met once in a range that it is in, and in no other
met : (a start n count : ℕ) → sum_by (λ i. cond (eqb a i) count 0) (range_with_len start n) ≡ cond (leb start a && ltb a (start + n)) count 0
met a start zero count = grind (arith, common_steps, nat_tests)
met a start (suc n) count =
    grind (arith, common_steps, nat_tests, met a (start + 1) n count, sum_by-cons (λ i. cond (eqb a i) count 0) start (range_with_len (start + 1) n))

pub behind_range : (a start n count : ℕ) → start + n ≤ a → sum_by (λ i. cond (eqb a i) count 0) (range_with_len start n) ≡ 0
behind_range a start n count behind = met a start n count ∙ grind (arith, common_steps, nat_tests, behind)

pub in_range : (a start n count : ℕ) → start ≤ a → a < start + n → sum_by (λ i. cond (eqb a i) count 0) (range_with_len start n) ≡ count
in_range a start n count low high = met a start n count ∙ grind (arith, common_steps, nat_tests, low, high)

in_or_behind : (a n : ℕ) (b : Bool) → leb n a ≡ b → sum_by (λ i. cond (eqb a i) 1 0) (range_with_len 0 n) + cond b 1 0 ≡ 1
in_or_behind a n true is = let past : n ≤ a = grind (arith, nat_tests, is) in omega (arith, behind_range a 0 n 1 (omega (arith, past)))
in_or_behind a n false is = let inside : a < n = grind (arith, nat_tests, is) in omega (arith, in_range a 0 n 1 (omega arith) (omega (arith, inside)))

-- one that passes has a number in the range or after it
one_part : (b : Bool) (a n : ℕ) → sum_by (λ i. cond (b && eqb a i) 1 0) (range_with_len 0 n) + cond (b && leb n a) 1 0 ≡ cond b 1 0
one_part true a n = in_or_behind a n (leb n a) refl
one_part false a n = ap (λ s. s + 0) (sum_none (range_with_len 0 n))

pub parts : {X : Type 0} (p : X → Bool) (f : X → ℕ) (n : ℕ) (xs : List X)
    → sum_by (λ i. count_by (λ x. p x && eqb (f x) i) xs) (range_with_len 0 n) + count_by (λ x. p x && leb n (f x)) xs ≡ count_by p xs
parts p f n [] = ap (λ s. s + 0) (sum_none (range_with_len 0 n))
parts p f n (x ∷ xs) =
    let rest = parts p f n xs in
    let one = one_part (p x) (f x) n in
    let split = sum_same (λ i. count_by (λ x. p x && eqb (f x) i) (x ∷ xs)) (λ i. cond (p x && eqb (f x) i) 1 0 + count_by (λ x. p x && eqb (f x) i) xs) (λ i. sum_by-cons (λ x. cond (p x && eqb (f x) i) 1 0) x xs) (range_with_len 0 n) in
    let plus = sum_plus (λ i. cond (p x && eqb (f x) i) 1 0) (λ i. count_by (λ x. p x && eqb (f x) i) xs) (range_with_len 0 n) in
    omega (arith, rest, one, split, plus, sum_by-cons (λ x. cond (p x) 1 0) x xs, sum_by-cons (λ x. cond (p x && leb n (f x)) 1 0) x xs)

-- A quotient is a product by a rounded share.

lower : (m w n q r a : ℕ) → w * q + r ≡ m → r ≤ w → w * a ≤ n → a * m ≤ n * (q + 1)
lower m w n q r a parts small below =
    let one : (w * a) * q ≤ n * q = mul-le-mul_right q below in
    let two : a * r ≤ a * w = mul-le-mul_left a small in
    let three : a * m ≡ a * (w * q + r) = ap (λ x. a * x) (sym parts) in
    omega (arith, one, two, three, below)

upper : (m w n q a : ℕ) → 0 < w → w * q ≤ m → n < q → n < w * (a + 1) → n * (q + 1) < (a + 1) * m
upper m w n q a some parts few above =
    let one : n * (w * q) ≤ n * m = mul-le-mul_left n parts in
    let two : n * w < q * w = mul-lt-mul_of_pos_right few some in
    let three : (n + 1) * m ≤ (w * (a + 1)) * m = mul-le-mul_right m (omega (arith, above)) in
    lt_of_mul-lt-mul_left w (omega (arith, one, two, three))

pub quotient_is : (m w n : ℕ) → 0 < w → n < m / w → n * (m / w + 1) / m ≡ n / w
quotient_is m w n some few =
    div-eq_of_lt-le m
    (lower m w n (m / w) (m % w) (n / w) (div-add-mod m w) (omega (arith, mod-lt m some)) (mul-div-le n w))
    (upper m w n (m / w) (n / w) some (mul-div-le m w) few (lt-mul-div-succ n some))

-- A whole `Vec` that was lent as a slice.

pub whole_slice : {X : Type 0} (xs : List X) (ys : List X) (n : ℕ) → length xs ≡ length ys → n ≡ length ys → take n (xs ++ drop (length xs) ys) ≡ xs
whole_slice xs ys n same all = grind (arith, common_steps)
