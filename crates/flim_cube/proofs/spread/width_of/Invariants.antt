use Rattle.std.proofs.Common.{◌≡◌, ℕ, ◌<◌, ◌≤◌, slice_index}
use Rattle.flim_cube.proofs.spread.width_of.Given as goal

abbrev pub invariant-loop-i : goal.invariant-loop-i
invariant-loop-i l = record {
  narrow : l.wide ≤ l.i;
  rest : (k : ℕ) → l.wide ≤ k → k < l.i → slice_index l.parts k ≡ 0;
}
