use Rattle.{std.proofs.Common.{◌≡◌, ◌+◌, ◌*◌, ◌^◌, ◌<◌, ◌≤◌, ℕ, slice_index}, lane_decode.specs.InColumns.{wraps_at, sum_to, time_in, before, Rises}}
use Rattle.lane_decode.proofs.columns.Columns.rises.Given as goal

abbrev pub invariant-loop-i : goal.invariant-loop-i
invariant-loop-i g l =
    let time = time_in l.base g.R.RecordLayout.UNIT l.self in
    record {
      few : (k : ℕ) → k < l.i → slice_index l.self.times k < 2 ^ 32;
      reached : l.falls ≡ 0 → before l.low time l.i ≤ l.base + g.R.RecordLayout.UNIT * sum_to (wraps_at l.self) l.i + l.last;
      rises : l.falls ≡ 0 → Rises l.low time l.i;
    }
