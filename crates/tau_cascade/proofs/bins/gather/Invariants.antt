use Rattle.{std.proofs.Common.{◌≡◌, ◌≤◌, take, drop}, tally_base.specs.{Settings.correlation_view, Columns.{item, rows}}, tau_cascade.specs.Bins.photon_bins}
use Rattle.tau_cascade.proofs.bins.gather.Given as goal

abbrev pub invariant-loop-at : goal.invariant-loop-at
invariant-loop-at l = record {
  bins : take l.count (drop l.start l.bins) ≡ photon_bins (correlation_view l.set) (rows (item l.block) l.at);
  few : l.count ≤ l.at;
}
