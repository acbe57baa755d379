-- Files and inputs in memory.
use Rattle.std.specs.{Prelude.{ℕ, ◌≡◌, List, [], ◌∷◌, true, false, None, Some, drop, length, slice_get, unwrap_or, if◌then◌else◌}, Str.bytes_eq, declared.{option.Option.Option, result.Result.Result}}
use Rattle.{bench_io.specs.{MemoryParts.{NamedBytes, FailsNext, next_turn, limited}, Inputs.{File, InputState}}, tally_base.specs.{FaultCounts.{FailsOnce, one_more}, declared.slot.Slot.Slot}}

-- of two files of one name the first counts
abbrev pub file_named : List NamedBytes → List ℕ → File
file_named [] name = None
file_named (file ∷ files) name = if bytes_eq file.name name then Some file.bytes else file_named files name

-- what is left of a file from a place on
abbrev pub rest_of_file : Option NamedBytes → ℕ → List ℕ
rest_of_file None at = []
rest_of_file (Some file) at = drop at file.bytes

-- Nothing was asked for or opened and nothing has failed. The files are told, and each name is meant.
pub record IsFresh (files : List NamedBytes) (state : InputState) : Type 0 where
  pub contents : (name : List ℕ) → state.contents name ≡ Some (file_named files name)
  pub asked : (slot : Slot) → state.asked slot ≡ false
  pub opened : (slot : Slot) → state.opened slot ≡ false
  pub open_faults : (slot : Slot) → state.open_faults slot ≡ 0
  pub read_faults : (slot : Slot) → state.read_faults slot ≡ 0
  pub meant : (slot : Slot) (name : List ℕ) → state.meant slot name ≡ true

-- What the calls of inputs in memory go by, beside the slots.
pub record MemoryState : Type 0 where
  pub files : List NamedBytes
  -- what the reads give at most, taken round and round, and the place of the next read's entry
  pub pieces : List ℕ
  pub turn : ℕ
  -- the numbers of the calls that fail, and how many calls there were
  pub failing : List ℕ
  pub calls : ℕ

-- The next call fails, whatever it is asked.
abbrev pub IsFailing : MemoryState → Type 0
IsFailing state = FailsNext state.failing state.calls

-- the bytes that a slot has left to read: the file that is told without what was given of it
abbrev pub left_of : InputState → Slot → List ℕ
left_of state slot = drop (length (state.given slot).bytes) (unwrap_or (state.told slot) [])

-- how many of the wanted bytes the next read gives
abbrev pub given_of : MemoryState → ℕ → ℕ
given_of state wanted = limited (slice_get state.pieces state.turn) wanted

-- The call is counted.
abbrev pub after_open : MemoryState → MemoryState
after_open state = record state { calls = one_more state.calls }

-- The call is counted, and the next entry has its turn.
abbrev pub after_read : MemoryState → MemoryState
after_read state = record state { calls = one_more state.calls; turn = next_turn state.pieces state.turn }

-- A failed opening adds one to the slot's count of these. Its reads have failed as often as before.
pub record CountsOpening {T E : Type 0} (slot : Slot) (old new : InputState) (result : Result T E) : Type 0 where
  pub opens : FailsOnce (old.open_faults slot) (new.open_faults slot) result
  pub reads : new.read_faults slot ≡ old.read_faults slot

-- A failed read adds one to the slot's count of these. Its openings have failed as often as before.
pub record CountsReading {T E : Type 0} (slot : Slot) (old new : InputState) (result : Result T E) : Type 0 where
  pub opens : new.open_faults slot ≡ old.open_faults slot
  pub reads : FailsOnce (old.read_faults slot) (new.read_faults slot) result
