use Rattle.{std.{proofs.Common.{◌≡◌, ◌≤◌, sum_by}, specs.List.range_with_len}, tau_cascade.specs.Grid.filled}
use Rattle.tau_cascade.proofs.grid.count_filled.Given as goal

abbrev pub invariant-loop-at : goal.invariant-loop-at
invariant-loop-at l = record { all : l.count ≡ sum_by (filled l.firsts l.seconds) (range_with_len 0 l.at); few : l.count ≤ l.at }
