use Rattle.{std.{proofs.Common.{◌≡◌, ◌+◌, ◌*◌, ◌≤◌, ◌++◌, take}, specs.List.flat_map}, arrayvec.specs.ArrayVec.array_vec_len}
use Rattle.list_out.specs.HeaderText.{shown_byte}
use Rattle.list_out.proofs.head.put_name.Given as goal

-- the bytes so far are printed
abbrev pub invariant-loop-byte : goal.invariant-loop-byte
invariant-loop-byte l = record {
  items : l.line.items ≡ l.initial.line.items ++ flat_map (shown_byte 0x21) (take l.byte-index l.name);
  len : array_vec_len l.line ≤ array_vec_len l.initial.line + 4 * l.byte-index;
}
