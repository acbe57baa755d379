use Rattle.{std.proofs.Common.{◌≡◌, ◌≤◌, ℕ, length, slice_index}, record_stream.specs.Runs.EndsReserved}
use Rattle.record_stream.proofs.runs.reserved_ends.Given as goal

abbrev pub invariant-back : goal.invariant-back
invariant-back l = record {
  size : length l.ends ≡ 65;
  few : l.at ≤ 64;
  end : EndsReserved l.columns l.at l.end;
  ends : (from : ℕ) → l.at ≤ from → from ≤ 64 → EndsReserved l.columns from (slice_index l.ends from);
}

abbrev pub decreases-back : goal.decreases-back
decreases-back l = l.at
