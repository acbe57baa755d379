use Rattle.std.proofs.Common.{◌≡◌, ℕ, ◌+◌, ◌*◌, ◌<◌, ◌≤◌, length, get_or}
use Rattle.tau_cascade.proofs.laid.add_laid.Given as goal

abbrev pub invariant-loop-q : goal.invariant-loop-q
invariant-loop-q g l = record {
  done : (p : ℕ) → p < l.q → get_or l.sums p 0 ≡ get_or l.fn.sums p 0 + get_or l.part p 0 * l.times;
  left : (p : ℕ) → l.q ≤ p → get_or l.sums p 0 ≡ get_or l.fn.sums p 0;
  same : length l.sums ≡ length l.fn.sums;
}
