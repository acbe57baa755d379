use Rattle.std.{proofs.Common.{◌≡◌, ◌*◌, ◌≤◌, get_or, sum_by}, specs.List.range_with_len}
use Rattle.tau_cascade.proofs.grid.sum_of.Given as goal

abbrev pub invariant-loop-q : goal.invariant-loop-q
invariant-loop-q l = record { all : l.sum ≡ sum_by (λ q. get_or l.lanes q 0) (range_with_len 0 l.q); few : l.sum ≤ 65535 * l.q }
