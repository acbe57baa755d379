use Rattle.{std.proofs.Common.{◌≤◌, ◌+◌, ◌++◌, false, sum}, tally_base.specs.{Settings.startstop_view, Tally.{History, floor_after}, Columns.{item, event_at}}}
use Rattle.{tally_base.specs.Columns.rows, coincidence.specs.{StartStop.Counted, Starts.since_in}}
use Rattle.coincidence.proofs.counting.count_block.Given as goal

abbrev pub invariant-loop-at : goal.invariant-loop-at
invariant-loop-at l = record {
  counted : (h : History) → Counted (startstop_view l.set) l.set.bins l.fn.cells l.fn.over l.fn.start h
      → Counted (startstop_view l.set) l.set.bins l.cells l.over l.last (h ++ rows (item l.block) l.at);
  few : sum l.cells + l.over ≤ sum l.fn.cells + l.fn.over + l.at;
  begun : since_in l.last ≤ floor_after false (since_in l.fn.start) (rows (event_at l.block) l.at);
}
