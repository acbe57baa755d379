use Rattle.{std.proofs.Common.{◌≡◌, ℕ, ◌+◌, ◌<◌, ◌≤◌, length, get_or}, lag_ring.specs.Cells.{row_at, carry_of}}
use Rattle.lag_ring.proofs.cells.carry_lows.Given as goal

abbrev pub invariant-loop-q : goal.invariant-loop-q
invariant-loop-q l = record {
  done : (c : ℕ) → c < l.from + l.q → get_or l.cells c 0 ≡ get_or l.fn.cells c 0 + carry_of (get_or l.fn.cells c 0) (row_at l.from l.row c);
  left : (c : ℕ) → l.from + l.q ≤ c → get_or l.cells c 0 ≡ get_or l.fn.cells c 0;
  same : length l.cells ≡ length l.fn.cells;
}
