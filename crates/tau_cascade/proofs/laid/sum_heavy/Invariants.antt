use Rattle.{std.{proofs.Common.{◌≡◌, ℕ, ◌+◌, ◌<◌, get_or, take}, specs.List.sum_by}, lag_ring.specs.{declared.window.Side.TheVariants.Second, Bytes.product_at}}
use Rattle.tau_cascade.specs.Dense.{placed}
use Rattle.tau_cascade.proofs.laid.sum_heavy.Given as goal

abbrev pub invariant-loop-i : goal.invariant-loop-i
invariant-loop-i g l = (q : ℕ) → q < g.row.N
    → get_or l.sums q 0 ≡ get_or l.fn.sums q 0 + sum_by (product_at Second l.window 0 (l.from + q)) (placed (take l.i l.list) l.places)
