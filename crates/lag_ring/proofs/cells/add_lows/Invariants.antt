use Rattle.{std.proofs.Common.{◌≡◌, ℕ, ◌+◌, ◌^◌, ◌<◌, ◌≤◌, ◌++◌, length, get_or}, lag_ring.specs.Cells.{row_at, places_from, without_carry}}
use Rattle.lag_ring.proofs.cells.add_lows.Given as goal

abbrev pub invariant-loop-q : goal.invariant-loop-q
invariant-loop-q g l = record {
  lows : (c : ℕ) → c < l.from + l.q → get_or l.cells c 0 ≡ without_carry (get_or l.fn.cells c 0) (row_at l.from l.row c);
  sums : l.seen < 2 ^ 63 → (c : ℕ) → c < l.from + l.q → get_or l.cells c 0 ≡ get_or l.fn.cells c 0 + row_at l.from l.row c;
  left : (c : ℕ) → l.from + l.q ≤ c → get_or l.cells c 0 ≡ get_or l.fn.cells c 0;
  same : length l.cells ≡ length l.fn.cells;
  places : l.additions.items ≡ l.fn.additions.items ++ places_from l.from l.q;
  steps : l.steps ≡ l.fn.steps + l.q;
}
