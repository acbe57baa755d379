-- Exchanged groups turn the differences.
use Rattle.{lag_ring.proofs.Sums.{sum_by-same, sum_by-plus}, tally_base.{proofs.Sums.sum_same, specs.{Settings.CoincidenceView, Tally.History}}}
use Rattle.coincidence.specs.Pairs.{in_first, in_second, is_in_cell, is_coincidence, coincidences, exchanged, both_pass, places_of, are_apart, pairs_apart}
use Rattle.{coincidence.proofs.{Hits.pairs_in, Intervals.{one_if, sum-places}}, std.proofs.Common.{◌≡◌, ℕ, suc, ◌+◌, Bool, false, List, [], ◌∷◌, length, refl}}
use Rattle.std.proofs.{Common.{arith, rules, tests, None, Some, count_by, sum_by, ◌∙◌, ◌-◌, ◌*◌, ◌≤◌, ◌&&◌, sym}, lemmas.List.Sums.sum_by-cons}
use Rattle.std.{proofs.{lemmas.{Grind.common_steps, Bool.Decides.nat_tests}, Math.Nat.div-one}, specs.{declared.option.Option.Option, List.slice_get}}

-- The pairs of different places, element by element.

-- there is an item, and it passes the test
abbrev one_passes : {X : Type 0} → (X → Bool) → Option X → Bool
one_passes p None = false
one_passes p (Some x) = p x

-- a count over the places of a list is the count over the list
count-places : {X : Type 0} (p : X → Bool) (xs : List X) → sum_by (λ i. one_if (one_passes p (slice_get xs i))) (places_of xs) ≡ count_by p xs
count-places p [] = refl
count-places p (x ∷ xs) = search (rules, arith, sum-places, one_if, one_passes, sum_by-cons, count-places p xs)

module _ {X : Type 0} (r : X → X → Bool) where
  first_row : (x : X) (xs : List X) → count_by (are_apart r (x ∷ xs) 0) (places_of (x ∷ xs)) ≡ count_by (r x) xs
  first_row x xs = search (rules, arith, sum-places, one_if, sum_same, one_passes, both_pass, tests, count-places)

  other_row : (x : X) (xs : List X) (i : ℕ) → count_by (are_apart r (x ∷ xs) (suc i)) (places_of (x ∷ xs)) ≡ one_if
      (one_passes (λ y. r y x) (slice_get xs i)) + count_by (are_apart r xs i) (places_of xs)
  other_row x xs i =
      let split = sum-places (λ j. one_if (are_apart r (x ∷ xs) (suc i) j)) (length xs) in
      grind (arith, common_steps, one_if, sum_same, nat_tests, one_passes, both_pass)

  pub pairs_apart-in : (xs : List X) → pairs_apart r xs ≡ pairs_in r xs
  pairs_apart-in [] = refl
  pairs_apart-in (x ∷ xs) =
      let split = sum-places (λ i. count_by (are_apart r (x ∷ xs) i) (places_of (x ∷ xs))) (length xs) in
      let parts = sum_by-plus (λ i. one_if (one_passes (λ y. r y x) (slice_get xs i))) (λ i. count_by (are_apart r xs i) (places_of xs)) (places_of xs) in
      omega (arith, split, sum_same _ _ (other_row x xs) (places_of xs), parts, first_row x xs, count-places (λ y. r y x) xs, pairs_apart-in xs)

-- Exchanged groups turn the differences.

-- the same pairs, from their second elements
turned : {X : Type 0} (r s : X → X → Bool) → ((x y : X) → r x y ≡ s y x) → (xs : List X) → pairs_in r xs ≡ pairs_in s xs
turned r s same [] = refl
turned r s same (x ∷ xs) = search (rules, arith, sum_by-same, turned r s same xs)

in_turned : (set : CoincidenceView) (c t u : ℕ) → set.width ≡ 1 → c ≤ 2 * set.reach → is_in_cell set c t u ≡ is_in_cell set (2 * set.reach - c) u t
in_turned set c t u one inside = search (rules, arith, div-one)

swapped : (a b c d : Bool) → c ≡ d → ◌≡◌ {A = Bool} ((a && b) && c) ((b && a) && d)
swapped a b c d same = grind (arith, same)

pub mirrored : (set : CoincidenceView) (c : ℕ) (h : History) → set.width ≡ 1 → c ≤ 2 * set.reach
    → coincidences (exchanged set) c h ≡ coincidences set (2 * set.reach - c) h
mirrored set c h one inside =
    pairs_apart-in (is_coincidence (exchanged set) c) h
    ∙ turned (is_coincidence (exchanged set) c) (is_coincidence set (2 * set.reach - c))
    (λ x y. swapped (in_second set x) (in_first set y) _ _ (in_turned set c x.0.time y.0.time one inside)) h
    ∙ sym (pairs_apart-in (is_coincidence set (2 * set.reach - c)) h)
