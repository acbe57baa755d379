use Rattle.{std.{proofs.Common.{◌≡◌, ℕ, ◌-◌, ◌*◌, ◌≤◌, take}, specs.List.{sum_by, AllByRecursion}}, lag_ring.specs.Bytes.weight_of}
use Rattle.lag_ring.proofs.bytes.spots_of.Given as goal

abbrev pub invariant-loop-entry : goal.invariant-loop-entry
invariant-loop-entry l = record {
  sums : (f : ℕ → ℕ) → sum_by f (take l.count l.spots) ≡ sum_by (λ e. f (e.index - l.low) * weight_of l.side e) (take l.entry-index l.entries);
  len : l.count ≡ sum_by (weight_of l.side) (take l.entry-index l.entries);
  within : (n : ℕ) → AllByRecursion (λ e. e.index - l.low ≤ n) l.entries → AllByRecursion (λ s. s ≤ n) (take l.count l.spots);
}
