use Rattle.{std.proofs.Common.{◌≡◌, ◌+◌, ◌*◌, []}, lane_decode.specs.{InColumns.{wraps_at, sum_to}, Staying.staying}}
use Rattle.record_stream.proofs.ahead.first_event.Given as goal

abbrev pub invariant-loop-at : goal.invariant-loop-at
invariant-loop-at g l = record {
  before : l.before ≡ l.base + g.R.RecordLayout.UNIT * sum_to (wraps_at l.columns) l.at;
  none : staying 512 l.columns l.at ≡ [];
}
