use Rattle.{std.proofs.Common.{◌≡◌, ℕ, ◌+◌, ◌<◌, ◌≤◌, length, get_or}, lag_ring.specs.Cells.added_at}
use Rattle.tau_cascade.proofs.pairing.add_each.Given as goal

abbrev pub invariant-loop-at : goal.invariant-loop-at
invariant-loop-at g l = record {
  done : (p : ℕ) → p < l.at → get_or l.cells.cells p 0 ≡ get_or l.initial.cells.cells p 0 + get_or l.sums p 0;
  left : (p : ℕ) → l.at ≤ p → get_or l.cells.cells p 0 ≡ get_or l.initial.cells.cells p 0;
  same : length l.cells.cells ≡ length l.initial.cells.cells;
  added : l.cells.added ≤ l.initial.cells.added + l.at;
  once : (p : ℕ) → added_at l.cells p ≤ added_at l.initial.cells p + 1;
  behind : (p : ℕ) → l.at ≤ p → added_at l.cells p ≡ added_at l.initial.cells p;
  steps : l.steps + l.initial.cells.added ≡ l.initial.steps + l.cells.added;
}
