use Rattle.{std.proofs.Common.{◌≡◌, ◌<◌, ◌*◌, ℕ, min, slice_index}, tally_base.specs.Codes.code_in}
use Rattle.tally_base.proofs.block.look_up.Given as goal

abbrev pub invariant-loop-k : goal.invariant-loop-k
invariant-loop-k l = (i : ℕ) → i < 8 * l.k → slice_index l.groups i ≡ slice_index l.table (min (code_in (slice_index l.marks i)) 256)
