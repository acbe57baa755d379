use Rattle.std.proofs.Common.{◌≡◌, ℕ, ◌+◌, ◌*◌, ◌<◌, length, get_or}
use Rattle.tau_cascade.proofs.grid.halve_part.Given as goal

abbrev pub invariant-loop-i : goal.invariant-loop-i
invariant-loop-i l = record {
  same : length l.to ≡ length l.fn.to;
  halves : (p : ℕ) → p < l.i → get_or l.to p 0 ≡ get_or l.pairs (2 * p) 0 + get_or l.pairs (2 * p + 1) 0;
}
