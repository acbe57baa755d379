use Rattle.{std.{proofs.Common.{◌≡◌, ◌-◌, ◌^◌, ◌<◌, take}, specs.List.sum_by}, lag_ring.specs.Bytes.weight_of}
use Rattle.lag_ring.proofs.window.total_weight.Given as goal

abbrev pub invariant-loop-entry : goal.invariant-loop-entry
invariant-loop-entry l = l.total < 2 ^ 64 - 1 → sum_by (weight_of l.side) (take l.entry-index l.entries) ≡ l.total
