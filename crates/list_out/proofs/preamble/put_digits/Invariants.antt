use Rattle.{std.{proofs.Common.{◌≡◌, ◌+◌, ◌*◌, ◌++◌, take}, specs.List.flat_map}, arrayvec.specs.ArrayVec.array_vec_len}
use Rattle.tally_base.specs.Hexadecimal.{hexadecimal}
use Rattle.list_out.proofs.preamble.put_digits.Given as goal

-- the bytes so far are printed
abbrev pub invariant-loop-byte : goal.invariant-loop-byte
invariant-loop-byte l = record {
  items : l.line.items ≡ l.initial.line.items ++ flat_map (hexadecimal 2) (take l.byte-index l.bytes);
  len : array_vec_len l.line ≡ array_vec_len l.initial.line + 2 * l.byte-index;
}
