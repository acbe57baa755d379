-- What a bin brings to the pairs of different places.
use Rattle.std.proofs.{Common.{◌≡◌, ℕ, ◌+◌, ◌*◌, ◌≤◌, Bool, true, false, ◌&&◌, cond, List, [], ◌∷◌, ◌++◌, length, refl, ◌∙◌, arith, rules}, Math.Nat.mul_comm}
use Rattle.std.{proofs.lemmas.{List.Sums.{sum_by-cons, sum_by-append, count_by-le-length}, Grind.common_steps}, specs.List.{count_by, AllByRecursion}}
use Rattle.{tally_base.proofs.Sums.sum_none, lag_ring.proofs.Sums.{cross, sum_by-agree, sum_by-same, sum_by-times, sum_by-plus}}

-- how many ordered pairs of an element and another one pass the test
abbrev pub pairs_in : {X : Type 0} → (X → X → Bool) → List X → ℕ
pairs_in r [] = 0
pairs_in r (x ∷ xs) = count_by (r x) xs + count_by (λ y. r y x) xs + pairs_in r xs

two : (a b : Bool) → ◌≡◌ {A = ℕ} (cond (a && b) 1 0) (cond a 1 0 * cond b 1 0)
two a b = search (rules, arith)

square : (f s a b n m : ℕ) → n + m ≡ a * b → ((b * f + a * s) + n) + (f * s + m) ≡ (f + a) * (s + b)
square f s a b n m is = grind arith

cross-cons_right : {X : Type 0} (r : X → X → Bool) (x : X) (xs ys : List X) → cross r ys (x ∷ xs) ≡ count_by (λ y. r y x) ys + cross r ys xs
cross-cons_right r x xs ys = search (rules, arith, sum_by-same, sum_by-cons, sum_by-plus)

pub pairs_in-append : {X : Type 0} (r : X → X → Bool) (xs ys : List X) → pairs_in r (xs ++ ys) ≡ pairs_in r xs + cross r xs ys + cross r ys xs + pairs_in r ys
pairs_in-append r [] ys = let none : cross r ys [] ≡ 0 = sum_by-same (λ y. count_by (r y) []) (λ y. 0) ys (λ y. refl) ∙ sum_none ys in omega arith
pairs_in-append r (x ∷ xs) ys = grind (arith, common_steps, sum_by-append, sum_by-cons, cross-cons_right, pairs_in-append r xs ys)

-- in one bin each first element pairs with each second one but itself
pub pairs_in-one : {X : Type 0} (first second : X → Bool) (xs : List X)
    → pairs_in (λ x y. first x && second y) xs + count_by (λ x. first x && second x) xs ≡ count_by first xs * count_by second xs
pairs_in-one first second [] = refl
pairs_in-one first second (x ∷ xs) =
    let firsts : count_by (λ y. first y && second x) xs ≡ count_by first xs * cond (second x) 1 0 = sum_by-same (λ y. cond (first y && second x) 1 0) (λ y. cond (first y) 1 0 * cond (second x) 1 0) xs (λ y. two (first y) (second x)) ∙ sum_by-times (λ y. cond (first y) 1 0) (cond (second x) 1 0) xs in
    let seconds : count_by (λ y. first x && second y) xs ≡ count_by second xs * cond (first x) 1 0 = sum_by-same (λ y. cond (first x && second y) 1 0) (λ y. cond (second y) 1 0 * cond (first x) 1 0) xs (λ y. two (first x) (second y) ∙ mul_comm (cond (first x) 1 0) (cond (second y) 1 0)) ∙ sum_by-times (λ y. cond (second y) 1 0) (cond (first x) 1 0) xs in
    rw (sum_by-cons (λ y. cond (first y && second y) 1 0) x xs, sum_by-cons (λ y. cond (first y) 1 0) x xs, sum_by-cons (λ y. cond (second y) 1 0) x xs, firsts, seconds, two (first x) (second x))
    (square (cond (first x) 1 0) (cond (second x) 1 0) (count_by first xs) (count_by second xs) _ _ (pairs_in-one first second xs))

-- tests that agree where P holds of both count the same pairs
pub pairs_in-agree : {X : Type 0} (P : X → Type 0) (r s : X → X → Bool) (xs : List X)
    → AllByRecursion P xs → ((x y : X) → P x → P y → r x y ≡ s x y) → pairs_in r xs ≡ pairs_in s xs
pairs_in-agree P r s [] all same = refl
pairs_in-agree P r s (x ∷ xs) all same = search (rules, arith, sum_by-agree, pairs_in-agree P r s xs all.1 same)

pub pairs_in-zero : {X : Type 0} (r : X → X → Bool) (xs : List X) → ((x y : X) → r x y ≡ false) → pairs_in r xs ≡ 0
pairs_in-zero r [] none = refl
pairs_in-zero r (x ∷ xs) none = grind (arith, common_steps, sum_none xs, pairs_in-zero r xs none)

-- there are no more pairs than the square of the number of places
pub pairs_in-le : {X : Type 0} (r : X → X → Bool) (xs : List X) → pairs_in r xs ≤ length xs * length xs
pairs_in-le r [] = omega arith
pairs_in-le r (x ∷ xs) = search (rules, arith, count_by-le-length, pairs_in-le r xs)

-- Pairs of a first and a second element whose places, by the function at, pass a test.
module _ {X : Type 0} (first second : X → Bool) (at : X → ℕ) (hits : ℕ → ℕ → Bool) where
  abbrev pub hit : X → X → Bool
  hit x y = (first x && second y) && hits (at x) (at y)

  three : (a b c : Bool) → ◌≡◌ {A = ℕ} (cond ((a && b) && c) 1 0) (cond b 1 0 * cond (a && c) 1 0)
  three a b c = search (rules, arith)

  three' : (a b c : Bool) → ◌≡◌ {A = ℕ} (cond ((a && b) && c) 1 0) (cond a 1 0 * cond (b && c) 1 0)
  three' a b c = search (rules, arith)

  -- the first elements before a bin with its second ones
  cross-from : (n : ℕ) (xs ys : List X) → AllByRecursion (λ y. at y ≡ n) ys → cross hit xs ys ≡ count_by (λ x. first x && hits (at x) n) xs * count_by second ys
  cross-from n xs ys here =
      sum_by-same (λ x. count_by (hit x) ys) (λ x. cond (first x && hits (at x) n) 1 0 * count_by second ys) xs
      (λ x. sum_by-agree (λ y. at y ≡ n) (λ y. cond (hit x y) 1 0) (λ y. cond (second y) 1 0 * cond (first x && hits (at x) n) 1 0) ys here (λ y is. rw is (three (first x) (second y) (hits (at x) n)))
      ∙ sum_by-times (λ y. cond (second y) 1 0) (cond (first x && hits (at x) n) 1 0) ys ∙ mul_comm (count_by second ys) (cond (first x && hits (at x) n) 1 0))
      ∙ sum_by-times (λ x. cond (first x && hits (at x) n) 1 0) (count_by second ys) xs

  -- the first elements of a bin with the second ones before it
  cross-to : (n : ℕ) (xs ys : List X) → AllByRecursion (λ x. at x ≡ n) xs → cross hit xs ys ≡ count_by (λ y. second y && hits n (at y)) ys * count_by first xs
  cross-to n xs ys here =
      sum_by-agree (λ x. at x ≡ n) (λ x. count_by (hit x) ys) (λ x. cond (first x) 1 0 * count_by (λ y. second y && hits n (at y)) ys) xs here
      (λ x is. sum_by-same (λ y. cond (hit x y) 1 0) (λ y. cond (second y && hits n (at y)) 1 0 * cond (first x) 1 0) ys (λ y. rw is (three' (first x) (second y) (hits n (at y)) ∙ mul_comm (cond (first x) 1 0) (cond (second y && hits n (at y)) 1 0)))
      ∙ sum_by-times (λ y. cond (second y && hits n (at y)) 1 0) (cond (first x) 1 0) ys ∙ mul_comm (count_by (λ y. second y && hits n (at y)) ys) (cond (first x) 1 0))
      ∙ sum_by-times (λ x. cond (first x) 1 0) (count_by (λ y. second y && hits n (at y)) ys) xs
      ∙ mul_comm (count_by first xs) (count_by (λ y. second y && hits n (at y)) ys)

  -- the pairs inside a bin
  pub hits-inside : (n : ℕ) (ys : List X) → AllByRecursion (λ y. at y ≡ n) ys → pairs_in hit ys ≡ cond (hits n n) (pairs_in (λ x y. first x && second y) ys) 0
  hits-inside n ys here =
      pairs_in-agree (λ x. at x ≡ n) hit (λ x y. (first x && second y) && hits n n) ys here (λ x y is_x is_y. rw (is_x, is_y) refl)
      ∙ elim (hits n n) as (λ b. pairs_in (λ x y. (first x && second y) && b) ys ≡ cond b (pairs_in (λ x y. first x && second y) ys) 0) [
        | true ↦ pairs_in-agree (λ x. at x ≡ n) _ _ ys here (λ x y is_x is_y. search (rules, arith))
        | false ↦ pairs_in-zero _ ys (λ x y. search (rules, arith))
      ]

  -- what a bin at n brings
  pub hits-append : (n : ℕ) (xs ys : List X) → AllByRecursion (λ y. at y ≡ n) ys → pairs_in hit (xs ++ ys) ≡ pairs_in hit xs
      + count_by (λ x. first x && hits (at x) n) xs * count_by second ys + count_by (λ x. second x && hits n (at x)) xs * count_by first ys
      + cond (hits n n) (pairs_in (λ x y. first x && second y) ys) 0
  hits-append n xs ys here = omega (arith, pairs_in-append hit xs ys, cross-from n xs ys here, cross-to n ys xs here, hits-inside n ys here)
