use Rattle.{std.proofs.Common.{◌≡◌, ◌+◌, ◌*◌, ◌≤◌, ℕ}, lane_decode.specs.InColumns.{row_at, wraps_at, sum_to, time_in}, record_stream.specs.Whole.last_below}
use Rattle.record_stream.proofs.ahead.last_time.Given as goal

abbrev pub invariant-back : goal.invariant-back
invariant-back g l =
    let unit = g.R.RecordLayout.UNIT in
    let codes : ℕ → ℕ = λ i. (row_at l.columns i).code in
    record {
      few : l.at ≤ 64;
      less : l.before ≤ l.sum;
      before : l.before + unit * sum_to (wraps_at l.columns) 64 ≡ l.sum + unit * sum_to (wraps_at l.columns) l.at;
      same : (base : ℕ) → last_below l.below codes (time_in base unit l.columns) 64 ≡ last_below l.below codes (time_in base unit l.columns) l.at;
    }

abbrev pub decreases-back : goal.decreases-back
decreases-back g l = l.at
