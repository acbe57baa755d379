-- What a command ends with, and which ends more bytes may change.
use Rattle.std.specs.{Prelude.{ℕ, ◌≡◌, ◌≤◌, List, [], length, None, Some, Bool, true, false, Err, ◌++◌}, declared.option.Option.Option}
use Rattle.tally_base.specs.declared.{fault.Fault.{Fault, TheVariants.{TruncatedHeader, TruncatedRecord, OpenFault, ReadFault, WriteFault}}, slot.Slot.{Slot, TheVariants.{Plan, Data}}}
use Rattle.{tally_base.specs.{Faults.status_of, FaultCounts.Rose}, ptu_definitions.specs.Headers.header_answer, bench_io.specs.{Given.{Given, IsAtEnd, MayFollow}, Inputs.InputState, Sinks.SinkState}}

-- the text on standard output, and the fault where there is one
pub record Outcome : Type 0 where
  pub text : List ℕ
  pub fault : Option Fault

abbrev pub refused : Fault → Outcome
refused fault = record { text = []; fault = Some fault }

abbrev pub written : List ℕ → Outcome
written text = record { text = text; fault = None }

abbrev pub status : Option Fault → ℕ
status None = 0
status (Some fault) = status_of fault

-- the number is one of these
abbrev pub IsIn : ℕ → ℕ → ℕ → Type 0
IsIn low high n = (low ≤ n) × (n ≤ high)

-- The data end too early. More bytes may do away with such a fault.
abbrev pub ends_early : Fault → Bool
ends_early (TruncatedHeader bytes) = true
ends_early (TruncatedRecord bytes) = true
ends_early _ = false

-- An end that more bytes may change.
abbrev pub MayChange : Option Fault → Type 0
MayChange None = Unit {0}
MayChange (Some fault) = ends_early fault ≡ true

-- The bytes are the front of a header, and call for no refusal by themselves.
abbrev pub IsCut : List ℕ → Type 0
IsCut bytes = header_answer bytes ≡ Err (TruncatedHeader (length bytes))

-- What the bytes that were read say of the whole.

-- No read between said the end.
pub record SaysNoEnd (start now : Given) : Type 0 where
  pub said_before : IsAtEnd now → IsAtEnd start

-- The bytes taken mean this, whatever may stand after them.
pub record Decides {A : Type 0} (meaning : List ℕ → A) (taken : List ℕ) (given : Given) (answer : A) : Type 0 where
  pub means : (more : List ℕ) → MayFollow given more → meaning (taken ++ more) ≡ answer

-- Which counts of faults a call moved.

-- whether the fault says that an opening of the slot failed
abbrev pub tells_opening : Option Fault → Slot → Bool
tells_opening None slot = false
tells_opening (Some (OpenFault Plan)) Plan = true
tells_opening (Some (OpenFault Data)) Data = true
tells_opening (Some _) slot = false

-- whether the fault says that a read of the slot failed
abbrev pub tells_reading : Option Fault → Slot → Bool
tells_reading None slot = false
tells_reading (Some (ReadFault Plan)) Plan = true
tells_reading (Some (ReadFault Data)) Data = true
tells_reading (Some _) slot = false

-- whether the fault says that a write of standard output failed
abbrev pub tells_writing : Option Fault → Bool
tells_writing (Some WriteFault) = true
tells_writing _ = false

-- The count is one greater where the fault tells of it, and stays as it was else.
abbrev pub CountsIf : Bool → ℕ → ℕ → Type 0
CountsIf true before now = Rose before now
CountsIf false before now = now ≡ before

-- No count of the inputs moved but the one that the fault tells of, by one: no other opening and no other read failed, and this one failed once.
pub record InputsOnce (before after : InputState) (fault : Option Fault) : Type 0 where
  pub openings : (slot : Slot) → CountsIf (tells_opening fault slot) (before.open_faults slot) (after.open_faults slot)
  pub reads : (slot : Slot) → CountsIf (tells_reading fault slot) (before.read_faults slot) (after.read_faults slot)

-- The count of writes of standard output that failed did not move, or by one where the fault tells of it.
abbrev pub OutOnce : Option Fault → SinkState → SinkState → Type 0
OutOnce fault old new = CountsIf (tells_writing fault) old.faults new.faults
