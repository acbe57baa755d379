use Rattle.{std.proofs.Common.{ℕ, ◌≡◌, ◌<◌, ◌≤◌, ◌+◌, sum, slice_index}, tally_base.specs.{Settings.hist_view, Columns.{item, rows}}}
use Rattle.tcspc_hist.specs.HistogramCounts.{in_bin, count_over}
use Rattle.tcspc_hist.proofs.hist.count_block.Given as goal

abbrev pub invariant-loop-at : goal.invariant-loop-at
invariant-loop-at l = record {
  cells : (b : ℕ) → b < l.set.bins → slice_index l.cells b ≡ slice_index l.fn.cells b + in_bin (hist_view l.set) b (rows (item l.block) l.at);
  over : l.over ≡ l.fn.over + count_over (hist_view l.set) (rows (item l.block) l.at);
  few : sum l.cells + l.over ≤ sum l.fn.cells + l.fn.over + l.at;
}
