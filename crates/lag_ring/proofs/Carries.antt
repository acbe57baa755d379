-- Counts to whose lower halves was added.
use Rattle.std.proofs.{Common.{◌≡◌, ◌≢◌, ℕ, ◌+◌, ◌^◌, ◌%◌, ◌<◌, true, false, eqb, List, length, get_or, set, refl, arith}, lemmas.Bool.Decides.nat_tests}
use Rattle.{std.proofs.lemmas.List.{get_or-set_same, get_or-set_other}, lag_ring.specs.Cells.without_carry}

pub no-carry : (n more : ℕ) → n % 2 ^ 64 < 2 ^ 63 → more < 2 ^ 32 → without_carry n more ≡ n + more
no-carry n more low few = omega arith

-- What each cell has is so, once the one that is set has it.
pub at-set : (f : ℕ → ℕ) (xs : List ℕ) (n v c : ℕ) → n < length xs → v ≡ f n → (c ≢ n → get_or xs c 0 ≡ f c) → get_or (set xs n v) c 0 ≡ f c
at-set f xs n v c inside is other = (elim (eqb c n) as (λ b. eqb c n ≡ b → get_or (set xs n v) c 0 ≡ f c) [
  | true ↦ λ here. let same : c ≡ n = grind (arith, nat_tests, here) in rw (same, get_or-set_same xs n v 0 inside) is
  | false ↦ λ away. let apart : c ≢ n = grind (arith, nat_tests, away) in rw (get_or-set_other xs n c v 0 apart) (other apart)
]) refl
