use Rattle.{std.{proofs.Common.{◌≡◌, ℕ, ◌+◌, ◌<◌, get_or, take}, specs.List.sum_by}, lag_ring.specs.Bytes.behind}
use Rattle.lag_ring.proofs.bytes.byte_sums.Given as goal

abbrev pub invariant-loop-spot : goal.invariant-loop-spot
invariant-loop-spot g l = (q : ℕ) → q < g.row.N → get_or l.sums q 0 ≡ sum_by (behind l.window (l.from + q)) (take l.spot-index l.spots)
