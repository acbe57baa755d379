use Rattle.{std.proofs.Common.{◌≡◌, ◌≤◌, ◌+◌, ◌++◌}, arrayvec.specs.ArrayVec.array_vec_len, tally_base.specs.Hexadecimal.hexadecimal}
use Rattle.tally_base.proofs.line.put_hexadecimal.Given as goal

-- the digits that are left make the rest of the text
abbrev pub invariant-digits : goal.invariant-digits
invariant-digits g l = record {
  items : l.line.items ++ hexadecimal l.left l.number ≡ l.initial.line.items ++ hexadecimal l.count l.number;
  len : array_vec_len l.line + l.left ≡ array_vec_len l.initial.line + l.count;
  few : l.left ≤ l.count;
}

abbrev pub decreases-digits : goal.decreases-digits
decreases-digits g l = l.left
