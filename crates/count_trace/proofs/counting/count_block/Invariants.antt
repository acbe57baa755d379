use Rattle.{std.proofs.Common.{ℕ, ◌≡◌, ◌<◌, ◌≤◌, ◌+◌, ◌*◌, sum, slice_index}, tally_base.specs.{Settings.trace_view, Columns.{item, rows}}}
use Rattle.count_trace.specs.TraceCounts.{in_trace_bin, count_before, count_beyond}
use Rattle.count_trace.proofs.counting.count_block.Given as goal

abbrev pub invariant-loop-at : goal.invariant-loop-at
invariant-loop-at l = record {
  each : (b : ℕ) → b < l.set.bins → slice_index l.cells b ≡ slice_index l.fn.cells b + in_trace_bin (trace_view l.set) b (rows (item l.block) l.at);
  early : l.rest.before ≡ l.fn.outside.before + count_before (trace_view l.set) (rows (item l.block) l.at);
  late : l.rest.beyond ≡ l.fn.outside.beyond + count_beyond (trace_view l.set) (rows (item l.block) l.at);
  few : sum l.cells + l.rest.before + l.rest.beyond ≤ sum l.fn.cells + l.fn.outside.before + l.fn.outside.beyond + l.at;
  edge : l.bin.low ≡ l.set.origin + l.bin.index * l.set.width;
}
