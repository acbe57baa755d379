-- Lists of one to so many values.
use Rattle.std.proofs.Common.{arith, ◌≡◌, ◌<◌, ◌≤◌, ◌&&◌, ◌⊎◌, ℕ, List, None, Option, false, true, length, nat_le, refl, inl, inr, if◌then◌else◌}
use Rattle.std.proofs.lemmas.Bool.{and_right, Decides.nat_tests}

module _ {X : Type 0} {Y : Type 0} (most : ℕ) (values : List X) (answer : Option Y) where
  pub none_among : (length values ≡ 0) ⊎ (most < length values) → None ≡ (if nat_le 1 (length values) && nat_le (length values) most then answer else None)
  none_among (inl none) = rw none refl
  none_among (inr many) =
      let past : nat_le (length values) most ≡ false = grind (arith, nat_tests) in
      rw (and_right (nat_le 1 (length values)) (nat_le (length values) most) past) refl

  pub some_among : (length values ≡ 0 → ⊥) → length values ≤ most → answer ≡ (if nat_le 1 (length values) && nat_le (length values) most then answer else None)
  some_among some few =
      let least : nat_le 1 (length values) ≡ true = grind (arith, nat_tests) in
      let fits : nat_le (length values) most ≡ true = grind (arith, nat_tests) in
      rw (least, fits) refl
