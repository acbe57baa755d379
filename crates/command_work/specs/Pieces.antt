-- What reading the data in pieces leaves.
use Rattle.std.specs.Prelude.{ℕ, ◌≡◌, ◌≤◌, ◌<◌, List, length, true, Result, IfOk, IfErr, ◌⊎◌, ◌+◌, [], ◌++◌, take, drop, slice_range, false, Ok, Err, Some, IsErrAnd}
use Rattle.{tally_base.specs.{declared.{slot.Slot.{TheVariants.{Data, Plan as PlanSlot}, Slot}, fault.Fault.Fault}, Faults.{is_outside, HasReason}, FaultCounts.Rose}, bench_io.specs.Inputs.InputState}
use Rattle.{bench_io.specs.{Inputs.{File, Keeps, KeepsOther}, Given.{Given, Consumes, IsAtEnd}}, command_work.specs.{Outcomes.{SaysNoEnd, Decides, IsCut}, Behaviours.piece_limit, Works.TakesFew}}
use Rattle.command_work.specs.{declared.{header.Fed.{Fed, TheVariants.{More, Done, Refused}}, data.FoundHeader.FoundHeader}, Endings.{FileOf, WantsForPlan}}
use Rattle.{ptu_definitions.specs.Headers.{header_answer, Shows}, ptu_header.specs.{declared.reader.HeaderReader.HeaderReader, ReadHeader.{HasRead, is_open, bytes_taken}}}
use Rattle.plan_text.specs.{declared.plan.Plan.Plan, ReadPlan.{text_limit, plan_answer, plan_seen}}

-- The only fault from outside is that a read of the data failed, where its count rose.
abbrev pub ReadReason : InputState → InputState → Fault → Type 0
ReadReason old new = HasReason (λ slot. ⊥) (λ slot. (slot ≡ Data) × Rose (old.read_faults slot) (new.read_faults slot)) ⊥ ⊥

-- The data are open, and the buffer is for pieces of them: it is not empty, and no longer than a piece may be.
pub record IsReady (state : InputState) (buffer : List ℕ) : Type 0 where
  pub opened : state.opened Data ≡ true
  pub room : 0 < length buffer
  pub small : length buffer ≤ piece_limit

-- A read fails only after bytes that go on so, and no more is taken after such than one read gives. No read said the end where one fails, nor where the work is done.
pub record StopsSoon {A : Type 0} (goes_on : List ℕ → Type 0) (start now : Given) (result : Result A Fault) : Type 0 where
  pub unread : IfErr result (λ fault. is_outside fault ≡ true → (taken : List ℕ) × Consumes start now taken × goes_on taken × SaysNoEnd start now)
  pub done : IfOk result (λ value. SaysNoEnd start now)
  pub few : TakesFew goes_on start now

-- What reading the header in pieces leaves.

-- How a piece leaves a reader that was given these bytes before.
abbrev pub Ends : List ℕ → List ℕ → HeaderReader → Fed → Type 0
Ends bytes piece reader More = HasRead reader (bytes ++ piece) × (is_open reader ≡ true) × IsCut (bytes ++ piece)
Ends bytes piece reader (Done used header) =
    (used ≤ length piece) × ((more : List ℕ) → header_answer (bytes ++ piece ++ more) ≡ Ok (header, drop used piece ++ more)) × (header_answer (bytes ++ take used piece) ≡ Ok (header, []))
Ends bytes piece reader (Refused fault) = Shows header_answer (bytes ++ piece) (Err fault)

-- A reader that goes on has taken the whole piece.
abbrev pub TakesPiece : HeaderReader → HeaderReader → List ℕ → Fed → Type 0
TakesPiece old new piece More = bytes_taken new ≡ bytes_taken old + length piece
TakesPiece old new piece (Done used header) = Unit {0}
TakesPiece old new piece (Refused fault) = Unit {0}

-- A refusal is one that the bytes call for.
abbrev pub RefusesInside : Fed → Type 0
RefusesInside More = Unit {0}
RefusesInside (Done used header) = Unit {0}
RefusesInside (Refused fault) = is_outside fault ≡ false

-- Bytes of the buffer ended the header, and those after it stand from `used` to `len`.
pub record EndsIn (buffer : List ℕ) (found : FoundHeader) : Type 0 where
  pub ended : 0 < found.used
  pub order : found.used ≤ found.len
  pub within : found.len ≤ length buffer

-- The header of the bytes taken, with the part of the buffer after it; or a fault.
abbrev pub HeaderEnds : List ℕ → List ℕ → Given → Result FoundHeader Fault → Type 0
HeaderEnds buffer taken given (Ok found) = (more : List ℕ) → header_answer (taken ++ more) ≡ Ok (found.header, slice_range buffer found.used found.len ++ more)
HeaderEnds buffer taken given (Err fault) = (is_outside fault ≡ true) ⊎ Decides header_answer taken given (Err fault)

-- What reading a plan leaves.

-- The name is meant for the slot, which was not asked for yet.
pub record MayOpen (state : InputState) (slot : Slot) (name : List ℕ) : Type 0 where
  pub meant : state.meant slot name ≡ true
  pub first : state.asked slot ≡ false

-- Nothing but calls for this slot lies between.
pub record OnlyUses (slot : Slot) (old new : InputState) : Type 0 where
  pub keeps : Keeps old new
  pub keeps_other : KeepsOther slot old new

-- So many bytes at the front of the text were taken from the plan's file, and it has ended where the text has room for more.
pub record IsFilled (before after : InputState) (text : List ℕ) (len : ℕ) : Type 0 where
  pub room : len ≤ length text
  pub taken : Consumes (before.given PlanSlot) (after.given PlanSlot) (take len text)
  pub ended : len < length text → IsAtEnd (after.given PlanSlot)

-- The file is there, and this is what its bytes answer as a plan.
pub record IsRead (plan_file : File) (result : Result Plan Fault) : Type 0 where
  pub text : List ℕ
  pub present : plan_file ≡ Some text
  pub answer : plan_answer text ≡ plan_seen result

-- A fault from outside, or what each file answers as a plan that may be the one read.
abbrev pub AnswersPlan : InputState → Result Plan Fault → Type 0
AnswersPlan after result = IsErrAnd result (λ fault. is_outside fault ≡ true) ⊎ ((plan_file : File) → FileOf after PlanSlot plan_file → IsRead plan_file result)

-- The plan could not be opened, or a read failed where none had said the end and no more bytes were taken than a plan may have, or memory ran out for the plan.
abbrev pub PlanReason : InputState → InputState → Fault → Type 0
PlanReason before after = HasReason
    (λ slot. (slot ≡ PlanSlot) × Rose (before.open_faults slot) (after.open_faults slot))
    (λ slot. (slot ≡ PlanSlot) × (after.opened slot ≡ true) × ¬ (IsAtEnd (after.given slot)) × Rose (before.read_faults slot) (after.read_faults slot) × (length (after.given PlanSlot).bytes ≤ text_limit))
    ⊥
    (WantsForPlan after)
