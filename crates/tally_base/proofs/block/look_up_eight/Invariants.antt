use Rattle.{std.proofs.Common.{◌≡◌, ◌<◌, ◌≤◌, ◌+◌, ℕ, min, slice_index}, tally_base.specs.Codes.code_in}
use Rattle.tally_base.proofs.block.look_up_eight.Given as goal

abbrev pub invariant-loop-j : goal.invariant-loop-j
invariant-loop-j l = record {
  there : (i : ℕ) → l.at ≤ i → i < l.at + l.j → slice_index l.groups i ≡ slice_index l.table (min (code_in (slice_index l.marks i)) 256);
  others : (i : ℕ) → i < l.at → slice_index l.groups i ≡ slice_index l.fn.groups i;
}
