use Rattle.{std.{proofs.Common.{◌≡◌, ◌*◌, ◌≤◌, sum_by}, specs.List.range_with_len}, tau_cascade.specs.Grid.product}
use Rattle.tau_cascade.proofs.grid.dot_heavy.Given as goal

abbrev pub invariant-loop-i : goal.invariant-loop-i
invariant-loop-i l = record { all : l.sum ≡ sum_by (product l.a l.b) (range_with_len 0 l.i); few : l.sum ≤ 4294967295 * l.i }
