use Rattle.{std.proofs.Common.◌≡◌, lane_decode.specs.InColumns.{wraps_at, sum_to}}
use Rattle.record_stream.proofs.ahead.wraps_in.Given as goal

abbrev pub invariant-loop-at : goal.invariant-loop-at
invariant-loop-at l = l.wraps ≡ sum_to (wraps_at l.columns) l.at
