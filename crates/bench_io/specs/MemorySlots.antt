-- What inputs in memory hold, as callers see it.
use Rattle.std.{specs.{Prelude.{ℕ, List, [], ◌∷◌, ◌≡◌, Bool, true, false, None, Some, OnOk, OnErr, Result, slice_get, take, refl}, declared.option.Option.Option}, proofs.Common.{sym, ◌∙◌, ◌++◌}}
use Rattle.std.proofs.{Common.{append-nil, take-append-drop}, Math.Seq.take-nil, lemmas.Option.{none-some, same_Some}}
use Rattle.{tally_base.specs.declared.slot.Slot.{Slot, TheVariants.{Plan, Data}}, bench_io.specs.declared.memory_slot.FileState.{FileState, TheVariants.{Unasked, Refused, Open}}}
use Rattle.bench_io.specs.{declared.{memory_slot.MemorySlot.MemorySlot, memory_inputs.MemoryInputs.MemoryInputs}, Given.{Given, gave, no_bytes, is_over, IsOf}, Inputs.{InputState, IsOpened}}
use Rattle.bench_io.specs.{MemoryParts.NamedBytes, Memory.{file_named, rest_of_file, MemoryState}}

-- whether the slot was asked for
abbrev pub was_asked : FileState → Bool
was_asked Unasked = false
was_asked Refused = true
was_asked (Open file at ended) = true

-- whether a file was opened in the slot
abbrev pub was_opened : FileState → Bool
was_opened Unasked = false
was_opened Refused = false
was_opened (Open file at ended) = true

-- the bytes that are left to read of the file that was opened
abbrev pub rest_in : List NamedBytes → FileState → List ℕ
rest_in files Unasked = []
rest_in files Refused = []
rest_in files (Open file at ended) = rest_of_file (slice_get files file) at

-- the whole file that was opened
abbrev pub told_in : List NamedBytes → FileState → Option (List ℕ)
told_in files Unasked = None
told_in files Refused = None
told_in files (Open file at ended) = Some (rest_of_file (slice_get files file) 0)

-- what the reads of the file that was opened have given
abbrev pub given_in : List NamedBytes → FileState → Given
given_in files Unasked = no_bytes
given_in files Refused = no_bytes
given_in files (Open file at ended) = gave (take at (rest_of_file (slice_get files file) 0)) (is_over (rest_of_file (slice_get files file) at) ended)

-- What an opening for a name left, by its answer.
pub record OpensFile {X E : Type 0} (files : List NamedBytes) (name : List ℕ) (now : FileState) (result : Result X E) : Type 0 where
  pub file : OnOk result (IsOpened (Some (file_named files name)) (told_in files now))
  pub given : OnOk result (given_in files now ≡ no_bytes)
  pub opened : OnOk result (was_opened now ≡ true)
  pub unopened : OnErr result (was_opened now ≡ false)
  pub asked : was_asked now ≡ true

-- The slot has the same file and is as open, and no more openings have failed.
pub record StaysOpen (files : List NamedBytes) (old new : MemorySlot) : Type 0 where
  pub told : told_in files new.reading ≡ told_in files old.reading
  pub opened : was_opened new.reading ≡ was_opened old.reading
  pub asked : was_asked new.reading ≡ was_asked old.reading
  pub open_faults : new.open_faults ≡ old.open_faults

-- one slot of the two
abbrev pub slot_of : MemoryInputs → Slot → MemorySlot
slot_of inputs Plan = inputs.plan
slot_of inputs Data = inputs.data

-- what the inputs hold and what was asked of them
unfoldable pub input_state : MemoryInputs → InputState
input_state inputs = record {
  contents = λ name. Some (file_named inputs.files.items name);
  told = λ slot. told_in inputs.files.items (slot_of inputs slot).reading;
  given = λ slot. given_in inputs.files.items (slot_of inputs slot).reading;
  open_faults = λ slot. (slot_of inputs slot).open_faults;
  read_faults = λ slot. (slot_of inputs slot).read_faults;
  asked = λ slot. was_asked (slot_of inputs slot).reading;
  opened = λ slot. was_opened (slot_of inputs slot).reading;
  meant = λ slot name. true;
}

-- what the calls go by, beside the slots
unfoldable pub memory_state : MemoryInputs → MemoryState
memory_state inputs = record {
  files = inputs.files.items;
  pieces = inputs.limits.entries.items;
  turn = inputs.limits.turn;
  failing = inputs.calls.failing.items;
  calls = inputs.calls.made;
}

-- what was opened was asked for
pub asked_from_opened : (reading : FileState) → was_opened reading ≡ true → was_asked reading ≡ true
asked_from_opened Unasked p = p
asked_from_opened Refused p = refl
asked_from_opened (Open file at ended) p = refl

pub slots_asked_first : (inputs : MemoryInputs) (slot : Slot) → (input_state inputs).opened slot ≡ true → (input_state inputs).asked slot ≡ true
unfolding input_state
slots_asked_first inputs Plan p = asked_from_opened inputs.plan.reading p
slots_asked_first inputs Data p = asked_from_opened inputs.data.reading p

pub none_over : (rest : List ℕ) (ended : Bool) → is_over rest ended ≡ true → rest ≡ []
none_over [] ended over = refl
none_over (x ∷ xs) ended over = cc

pub whole_parts : (whole : Option NamedBytes) (at : ℕ) → rest_of_file whole 0 ≡ take at (rest_of_file whole 0) ++ rest_of_file whole at
whole_parts None at = sym (append-nil (take at []) ∙ take-nil at)
whole_parts (Some whole) at = sym (take-append-drop at whole.bytes)

-- the file that is told is one of which the reads gave what they gave
pub agrees_in : (files : List NamedBytes) (reading : FileState) (file : List ℕ) → told_in files reading ≡ Some file → IsOf (given_in files reading) file
agrees_in files Unasked file told = absurd (none-some file told)
agrees_in files Refused file told = absurd (none-some file told)
agrees_in files (Open place at ended) file told =
    let whole = slice_get files place in
    record {
      more = rest_of_file whole at;
      parts = sym (same_Some (rest_of_file whole 0) file told) ∙ whole_parts whole at;
      may_follow = none_over (rest_of_file whole at) ended;
    }

pub slots_agree : (inputs : MemoryInputs) (slot : Slot) (file : List ℕ) → (input_state inputs).told slot ≡ Some file → IsOf ((input_state inputs).given slot) file
unfolding input_state
slots_agree inputs slot file told = agrees_in inputs.files.items (slot_of inputs slot).reading file told
