-- Events that are only counted.
use Rattle.std.{specs.Prelude.{ℕ, ◌≡◌, ◌+◌, [], length, max, refl}, proofs.Common.arith}
use Rattle.{tally_base.specs.declared.header.Mode.Mode, ptu_definitions.specs.Kept.{Marked, floor_of}}

-- These came more.
pub record HasCounted (mode mode' : Mode) (taken taken' floor floor' : ℕ) (l : Marked) : Type 0 where
  pub same_mode : mode' ≡ mode
  pub counted : taken' ≡ taken + length l
  pub moved : floor' ≡ max floor (floor_of mode l)

pub counted_none : (mode : Mode) (taken floor : ℕ) → HasCounted mode mode taken taken floor floor []
counted_none mode taken floor = record { same_mode = refl; counted = omega arith; moved = omega arith }
