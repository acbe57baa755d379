use Rattle.{std.proofs.Common.{◌≡◌, ◌<◌, ℕ, min, slice_index}, tally_base.specs.Columns.{code_at, groups_at, sorted}}
use Rattle.tally_base.proofs.block.Block.sort_by.Given as goal

abbrev pub invariant-loop-at : goal.invariant-loop-at
invariant-loop-at g l = record {
  len : l.self.len ≡ l.fn.self.len;
  places : l.self.places ≡ l.fn.self.places;
  times : l.self.times ≡ l.fn.self.times;
  marks : l.self.marks ≡ l.fn.self.marks;
  unsorted : sorted l.self ≡ 0;
  there : (i : ℕ) → i < l.at → groups_at l.self i ≡ slice_index l.groups (min (code_at l.self i) 256);
}
