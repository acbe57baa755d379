-- Wraps, added.
use Rattle.{std.proofs.Common.{◌≡◌, ◌+◌, ◌*◌, ◌<◌, ◌≤◌, ℕ, zero, suc, arith, rules}, lane_decode.specs.InColumns.sum_to}

pub sum-more : (f : ℕ → ℕ) (n : ℕ) → sum_to f (n + 1) ≡ sum_to f n + f n
unfolding sum_to
sum-more f n = search (rules, arith)

-- few of each are few together
pub sum-few : (f : ℕ → ℕ) (most n : ℕ) → ((i : ℕ) → i < n → f i ≤ most) → sum_to f n ≤ n * most
unfolding sum_to
sum-few f most zero few = omega arith
sum-few f most (suc n) few = omega (arith, sum-few f most n (λ i lt. few i (omega (arith, lt))), few n (omega arith))
