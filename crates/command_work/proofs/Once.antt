-- Counts that stay over several calls, and move by one that failed.
use Rattle.std.{proofs.Common.{ℕ, ◌≡◌, Bool, false, None, Some, refl, subst, arith, rules}, specs.declared.option.Option.Option}
use Rattle.tally_base.specs.{declared.{slot.Slot.Slot, fault.Fault.{Fault, TheVariants.{OpenFault, ReadFault, WriteFault, OutOfMemory}}}, Faults.is_outside}
use Rattle.{tally_base.specs.{Faults.HasReason, FaultCounts.Rose}, bench_io.specs.Inputs.{InputState, KeepsOther, OpensNone}}
use Rattle.command_work.specs.Outcomes.{tells_opening, tells_reading, tells_writing, CountsIf, InputsOnce}

pub Rose-kept : (before mid now : ℕ) → mid ≡ before → Rose mid now → Rose before now
Rose-kept before mid now same rose = subst (λ (n : ℕ). Rose n now) same rose

-- ## Faults that tell of no call of the inputs

pub record IsQuiet (fault : Option Fault) : Type 0 where
  pub openings : (slot : Slot) → tells_opening fault slot ≡ false
  pub reads : (slot : Slot) → tells_reading fault slot ≡ false

pub quiet-none : IsQuiet None
quiet-none = record { openings = λ slot. refl; reads = λ slot. refl }

pub quiet-write : IsQuiet (Some WriteFault)
quiet-write = record { openings = λ slot. refl; reads = λ slot. refl }

pub quiet-memory : IsQuiet (Some OutOfMemory)
quiet-memory = record { openings = λ slot. refl; reads = λ slot. refl }

pub quiet-inside : (fault : Fault) → is_outside fault ≡ false → IsQuiet (Some fault)
quiet-inside fault inside = search (rules, arith)

counts-same : (tells : Bool) (before now : ℕ) → tells ≡ false → now ≡ before → CountsIf tells before now
counts-same tells before now quiet same = search (rules, arith)

pub counts-behind : (tells : Bool) (before mid now : ℕ) → mid ≡ before → CountsIf tells mid now → CountsIf tells before now
counts-behind tells before mid now same h = subst (λ (n : ℕ). CountsIf tells n now) same h

-- ## Counts of the inputs

-- no call failed
pub once-none : (a b : InputState) (fault : Option Fault) → IsQuiet fault → InputsOnce a b None → InputsOnce a b fault
once-none a b fault quiet h = search (rules, arith, counts-same)

-- nothing was called
pub once-refl : (state : InputState) (fault : Option Fault) → IsQuiet fault → InputsOnce state state fault
once-refl state fault quiet = once-none state state fault quiet (record { openings = λ slot. refl; reads = λ slot. refl })

-- none failed before
pub once-behind : (a b c : InputState) (fault : Option Fault) → InputsOnce a b None → InputsOnce b c fault → InputsOnce a c fault
once-behind a b c fault p q = search (rules, arith, counts-behind)

other-reads : (slot : Slot) (a b : InputState) → KeepsOther slot a b
    → b.read_faults slot ≡ a.read_faults slot → (it : Slot) → b.read_faults it ≡ a.read_faults it
other-reads slot a b other same it = search (rules, arith)

other-openings : (slot : Slot) (a b : InputState) → KeepsOther slot a b
    → b.open_faults slot ≡ a.open_faults slot → (it : Slot) → b.open_faults it ≡ a.open_faults it
other-openings slot a b other same it = search (rules, arith)

unread-reads : (slot : Slot) (a b : InputState) → KeepsOther slot a b → Rose (a.read_faults slot) (b.read_faults slot)
    → (it : Slot) → CountsIf (tells_reading (Some (ReadFault slot)) it) (a.read_faults it) (b.read_faults it)
unread-reads slot a b other once it = search (rules, arith)

unopened-openings : (slot : Slot) (a b : InputState) → KeepsOther slot a b → Rose (a.open_faults slot) (b.open_faults slot)
    → (it : Slot) → CountsIf (tells_opening (Some (OpenFault slot)) it) (a.open_faults it) (b.open_faults it)
unopened-openings slot a b other once it = search (rules, arith)

-- a read that did not fail after others that did not, whatever is refused then
pub once-read : (slot : Slot) (a b c : InputState) (fault : Option Fault) → IsQuiet fault → InputsOnce a b None
    → KeepsOther slot b c → OpensNone b c → c.read_faults slot ≡ b.read_faults slot → InputsOnce a c fault
once-read slot a b c fault quiet so_far other none same = search (rules, arith, once-none, once-behind, other-reads)

-- a read that failed
pub once-unread : (slot : Slot) (a b c : InputState) → InputsOnce a b None → KeepsOther slot b c
    → OpensNone b c → Rose (b.read_faults slot) (c.read_faults slot) → InputsOnce a c (Some (ReadFault slot))
once-unread slot a b c so_far other none once = search (rules, arith, once-behind, unread-reads)

-- an opening that did not fail
pub once-opened : (slot : Slot) (a b c : InputState) → InputsOnce a b None → KeepsOther slot b c
    → c.read_faults slot ≡ b.read_faults slot → c.open_faults slot ≡ b.open_faults slot → InputsOnce a c None
once-opened slot a b c so_far other reads same = search (rules, arith, once-behind, other-openings, other-reads)

-- an opening that failed
pub once-unopened : (slot : Slot) (a b c : InputState) → InputsOnce a b None → KeepsOther slot b c
    → c.read_faults slot ≡ b.read_faults slot → Rose (b.open_faults slot) (c.open_faults slot) → InputsOnce a c (Some (OpenFault slot))
once-unopened slot a b c so_far other reads once = search (rules, arith, once-behind, unopened-openings, other-reads)

-- ## The count of standard output

pub out-inside : (fault : Fault) (before now : ℕ) → is_outside fault ≡ false → now ≡ before → CountsIf (tells_writing (Some fault)) before now
out-inside fault before now inside same = search (rules, arith)

-- nor does one that has another reason
pub out-unwritten : (opening reading : Slot → Type 0) (memory : Type 0) (fault : Fault) (count : ℕ)
    → HasReason opening reading ⊥ memory fault → CountsIf (tells_writing (Some fault)) count count
out-unwritten opening reading memory fault count reason = search (rules, arith)
