use Rattle.std.{proofs.Common.{◌≡◌, ℕ, ◌+◌, ◌*◌, ◌≤◌, take}, specs.List.{sum_by, AllByRecursion}}
use Rattle.lag_ring.proofs.bytes.put_times.Given as goal

abbrev pub invariant-loop-time : goal.invariant-loop-time
invariant-loop-time l = record {
  sums : (f : ℕ → ℕ) → sum_by f (take (l.count + l.time) l.spots) ≡ sum_by f (take l.count l.initial.spots) + f l.spot * l.time;
  within : (n : ℕ) → l.spot ≤ n → AllByRecursion (λ s. s ≤ n) (take l.count l.initial.spots) → AllByRecursion (λ s. s ≤ n) (take (l.count + l.time) l.spots);
}
