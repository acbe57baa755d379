use Rattle.{std.proofs.Common.{◌≡◌, ◌*◌, ◌++◌, length, map, get_or}, tally_base.specs.Columns.{sorted, gathered}, lane_decode.specs.Staying.{staying, event_in}}
use Rattle.lane_decode.specs.InColumns.{wraps_at, sum_to}
use Rattle.lane_decode.proofs.columns.Columns.put_events.Given as goal

abbrev pub invariant-loop-k : goal.invariant-loop-k
invariant-loop-k g l = record {
  events : gathered l.block ≡ gathered l.fn.block ++ map (event_in l.placed l.base g.R.RecordLayout.UNIT l.self) (staying l.below l.self (8 * l.k));
  unsorted : sorted l.block ≡ sorted l.fn.block;
  long : length l.sums ≡ 8;
  last : get_or l.sums 7 0 ≡ sum_to (wraps_at l.self) (8 * l.k);
}
