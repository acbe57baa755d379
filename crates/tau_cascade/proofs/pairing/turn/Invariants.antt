use Rattle.std.proofs.Common.{◌≡◌, ℕ, ◌+◌, ◌-◌, ◌<◌, length, get_or}
use Rattle.tau_cascade.proofs.pairing.turn.Given as goal

abbrev pub invariant-loop-p : goal.invariant-loop-p
invariant-loop-p l = record {
  turned : (q : ℕ) → q < l.p → get_or l.sums (l.at + q) 0 ≡ get_or l.close (length l.close - 1 - q) 0;
  before : (q : ℕ) → q < l.at → get_or l.sums q 0 ≡ get_or l.initial.sums q 0;
}
