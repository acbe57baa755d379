use Rattle.std.proofs.Common.{◌-◌, ◌≡◌, ◌<◌, ◌≤◌, ℕ, slice_index}
use Rattle.ptu_header.proofs.head.TagHead.name.Given as goal

abbrev pub invariant-bytes : goal.invariant-bytes
invariant-bytes l = record {
  fits : l.len ≤ 32;
  none : (k : ℕ) → k < l.len → slice_index l.self.ident k ≡ 0 → ⊥;
}

abbrev pub decreases-bytes : goal.decreases-bytes
decreases-bytes l = 32 - l.len
