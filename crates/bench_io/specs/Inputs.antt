-- What calls say of two inputs, each in a slot of its own.
use Rattle.std.specs.{Prelude.{ℕ, List, ◌≡◌, ◌≤◌, Bool, None, Some, IsSome}, declared.option.Option.Option}
use Rattle.{tally_base.specs.declared.slot.Slot.{Slot, TheVariants.{Plan, Data}}, bench_io.specs.Given.Given}

-- the bytes of a file, or None where there is no such file
abbrev pub File : Type 0
File = Option (List ℕ)

-- the other of the two slots
abbrev pub other : Slot → Slot
other Plan = Data
other Data = Plan

-- What inputs hold, what was asked of them and what has failed.
pub record InputState : Type 0 where
  -- the file of a name, where the inputs tell it
  pub contents : List ℕ → Option File
  -- the whole file that was opened in a slot, where the inputs tell it
  pub told : Slot → Option (List ℕ)
  -- what the reads of a slot have given so far
  pub given : Slot → Given
  -- how often an opening and a read of a slot have failed
  pub open_faults : Slot → ℕ
  pub read_faults : Slot → ℕ
  -- whether the slot was asked for, and whether it was opened
  pub asked : Slot → Bool
  pub opened : Slot → Bool
  -- whether a name is meant for the slot
  pub meant : Slot → List ℕ → Bool

-- A file that was opened is there, and is the one that is told of the slot.
abbrev pub IsOpened : Option File → Option (List ℕ) → Type 0
IsOpened None told = Unit {0}
IsOpened (Some file) told = (told ≡ file) × IsSome file

-- Each slot's count stays or rises.
abbrev pub NoneFalls : (Slot → ℕ) → (Slot → ℕ) → Type 0
NoneFalls before now = (slot : Slot) → before slot ≤ now slot

-- No call changes what files there are and which names are meant, and no count falls.
pub record Keeps (old new : InputState) : Type 0 where
  pub contents : new.contents ≡ old.contents
  pub meant : new.meant ≡ old.meant
  pub open_faults : NoneFalls old.open_faults new.open_faults
  pub read_faults : NoneFalls old.read_faults new.read_faults

-- The other slot stays as it was, with its counts.
pub record KeepsOther (slot : Slot) (old new : InputState) : Type 0 where
  pub told : new.told (other slot) ≡ old.told (other slot)
  pub given : new.given (other slot) ≡ old.given (other slot)
  pub asked : new.asked (other slot) ≡ old.asked (other slot)
  pub opened : new.opened (other slot) ≡ old.opened (other slot)
  pub open_faults : new.open_faults (other slot) ≡ old.open_faults (other slot)
  pub read_faults : new.read_faults (other slot) ≡ old.read_faults (other slot)

-- Nothing is asked for or opened, and no opening fails.
pub record OpensNone (old new : InputState) : Type 0 where
  pub told : new.told ≡ old.told
  pub asked : new.asked ≡ old.asked
  pub opened : new.opened ≡ old.opened
  pub open_faults : new.open_faults ≡ old.open_faults

-- Nothing but reads of this slot lies between.
pub record OnlyReads (slot : Slot) (old new : InputState) : Type 0 where
  pub keeps : Keeps old new
  pub keeps_other : KeepsOther slot old new
  pub opens_none : OpensNone old new
