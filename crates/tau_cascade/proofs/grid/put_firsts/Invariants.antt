use Rattle.{std.proofs.Common.{◌≡◌, ℕ, ◌+◌, ◌<◌, length, get_or, map, take}, lag_ring.specs.{declared.window.Side.TheVariants.First, Bytes.weight_at}}
use Rattle.tau_cascade.specs.Bins.{raised}
use Rattle.tau_cascade.proofs.grid.put_firsts.Given as goal

abbrev pub invariant-loop-bin : goal.invariant-loop-bin
invariant-loop-bin l = record {
  have : (p : ℕ) → p < length l.fn.window
      → get_or l.window p 0 ≡ get_or l.fn.window p 0 + weight_at First 192 l.low p (take l.bin-index (map (raised l.levels) l.bins));
  same : length l.window ≡ length l.fn.window;
}
