use Rattle.{std.{proofs.Common.{◌≡◌, ℕ, ◌+◌, ◌*◌, ◌<◌, length, get_or, sum_by}, specs.List.range_with_len}, tau_cascade.specs.Grid.product}
use Rattle.tau_cascade.proofs.grid.dot_light.Given as goal

abbrev pub invariant-loop-row : goal.invariant-loop-row
invariant-loop-row l = record {
  same : length l.sums ≡ 16;
  sums : (q : ℕ) → q < 16 → get_or l.sums q 0 ≡ sum_by (λ r. product l.a l.b (16 * r + q)) (range_with_len 0 l.row);
}
