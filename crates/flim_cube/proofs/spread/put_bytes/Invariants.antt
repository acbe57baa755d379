use Rattle.{std.proofs.Common.{◌≡◌, ℕ, ◌+◌, ◌*◌, ◌%◌, ◌<◌, ◌≤◌, slice_index, ◌≢◌}, flim_cube.specs.Bytes.byte_in}
use Rattle.flim_cube.proofs.spread.put_bytes.Given as goal

abbrev pub invariant-loop-i : goal.invariant-loop-i
invariant-loop-i l = record {
  own : (k : ℕ) → k < l.i → byte_in l.bytes (k * l.size + l.at) ≡ slice_index l.parts k;
  others : (place : ℕ) → place % l.size ≢ l.at → byte_in l.bytes place ≡ byte_in l.fn.bytes place;
  behind : (place : ℕ) → l.wide * l.size ≤ place → byte_in l.bytes place ≡ byte_in l.fn.bytes place;
}
