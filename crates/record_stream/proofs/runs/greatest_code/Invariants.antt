use Rattle.{std.proofs.Common.{◌<◌, ◌≤◌, ℕ}, lane_decode.specs.InColumns.row_at}
use Rattle.record_stream.proofs.runs.greatest_code.Given as goal

abbrev pub invariant-loop-at : goal.invariant-loop-at
invariant-loop-at l = (k : ℕ) → k < l.at → (row_at l.columns k).code ≤ l.greatest
