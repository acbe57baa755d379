-- Each fault's exit status and its line on standard error.
use Rattle.std.specs.{Prelude.{ℕ, List, ◌++◌, Bool, true, false, None, Some, Result, Ok, Err, codes, decimal}, declared.option.Option.Option, Fmt.signed_decimal, Int.{w64, cast_unsigned}}
use Rattle.tally_base.specs.{Hexadecimal.hexadecimal, declared.{slot.Slot.{Slot, TheVariants.{Plan, Data}}, header.Mode.{Mode, TheVariants.{T2, T3}}, part.PartKind.{PartKind, TheVariants.Gate}}}
use Rattle.tally_base.specs.declared.{part.PartKind.TheVariants.{Shift, Histogram, StartStop, Coincidence, Image, Cube, Fold}, fault.Fault.{Fault, TheVariants.{Usage, OpenFault, ReadFault}}}
use Rattle.tally_base.specs.declared.fault.Fault.TheVariants.{WriteFault, OutOfMemory, PlanTooLong, PlanSyntax, PlanRule, PlanMode, BadMagic, TruncatedHeader, TagType, TagLength, NoRecordType}
use Rattle.tally_base.specs.declared.fault.Fault.TheVariants.{UnknownRecordType, HeaderLimit, TruncatedRecord, ReservedRecord, BackwardTime, RecordLimit, TimeLimit, NoTrace, NoGroup, PickTime}

abbrev pub status_of : Fault → ℕ
status_of Usage = 1
status_of (OpenFault slot) = 2
status_of (ReadFault slot) = 3
status_of WriteFault = 4
status_of OutOfMemory = 5
status_of PlanTooLong = 6
status_of PlanSyntax = 7
status_of (PlanRule rule index) = 8
status_of (PlanMode kind index mode) = 9
status_of BadMagic = 10
status_of (TruncatedHeader bytes) = 11
status_of (TagType tag code) = 12
status_of (TagLength tag length) = 13
status_of NoRecordType = 14
status_of (UnknownRecordType value) = 15
status_of HeaderLimit = 16
status_of (TruncatedRecord bytes) = 17
status_of (ReservedRecord place word) = 18
status_of (BackwardTime place time before) = 19
status_of (RecordLimit limit) = 20
status_of (TimeLimit place) = 21
status_of NoTrace = 22
status_of (NoGroup group) = 23
status_of (PickTime place) = 24

abbrev pub slot_name : Slot → List ℕ
slot_name Plan = codes "plan"
slot_name Data = codes "data"

abbrev pub kind_name : PartKind → List ℕ
kind_name Gate = codes "gate"
kind_name Shift = codes "shift"
kind_name Histogram = codes "histogram"
kind_name StartStop = codes "startstop"
kind_name Coincidence = codes "coincidence"
kind_name Image = codes "image"
kind_name Cube = codes "cube"
kind_name Fold = codes "fold"

abbrev pub mode_name : Mode → List ℕ
mode_name T2 = codes "T2"
mode_name T3 = codes "T3"

-- what a fault says
abbrev pub reason_of : Fault → List ℕ
reason_of Usage = codes "bad command line"
reason_of (OpenFault slot) = codes "cannot open the " ++ slot_name slot
reason_of (ReadFault slot) = codes "cannot read the " ++ slot_name slot
reason_of WriteFault = codes "cannot write"
reason_of OutOfMemory = codes "out of memory"
reason_of PlanTooLong = codes "plan longer than 65536 bytes"
reason_of PlanSyntax = codes "plan is not TOML"
reason_of (PlanRule rule index) = codes "plan breaks rule " ++ decimal rule ++ codes " at " ++ decimal index
reason_of (PlanMode kind index mode) = kind_name kind ++ codes " " ++ decimal index ++ codes " does not suit " ++ mode_name mode
reason_of BadMagic = codes "not a PTU file"
reason_of (TruncatedHeader bytes) = codes "header cut after " ++ decimal bytes ++ codes " bytes"
reason_of (TagType tag code) = codes "tag " ++ decimal tag ++ codes " has type " ++ hexadecimal 8 code
reason_of (TagLength tag length) = codes "tag " ++ decimal tag ++ codes " has length " ++ signed_decimal length
reason_of NoRecordType = codes "no record type"
reason_of (UnknownRecordType value) = codes "record type " ++ hexadecimal 16 (cast_unsigned w64 value)
reason_of HeaderLimit = codes "header longer than 16777216 bytes"
reason_of (TruncatedRecord bytes) = decimal bytes ++ codes " bytes of a record at the end"
reason_of (ReservedRecord place word) = codes "record " ++ decimal place ++ codes " is reserved: " ++ hexadecimal 8 word
reason_of (BackwardTime place time before) = codes "record " ++ decimal place ++ codes " goes back from " ++ decimal before ++ codes " to " ++ decimal time
reason_of (RecordLimit limit) = codes "more than " ++ decimal limit ++ codes " records"
reason_of (TimeLimit place) = codes "record " ++ decimal place ++ codes " passes the greatest time"
reason_of NoTrace = codes "plan has no trace"
reason_of (NoGroup group) = codes "plan has no group " ++ decimal group
reason_of (PickTime place) = codes "record " ++ decimal place ++ codes " is too late to write"

-- the line on standard error
abbrev pub line_of : Fault → List ℕ
line_of fault = codes "ptu: " ++ reason_of fault ++ codes "\n"

-- faults that the words and the bytes don't call for
abbrev pub is_outside : Fault → Bool
is_outside Usage = false
is_outside (OpenFault slot) = true
is_outside (ReadFault slot) = true
is_outside WriteFault = true
is_outside OutOfMemory = true
is_outside PlanTooLong = false
is_outside PlanSyntax = false
is_outside (PlanRule rule index) = false
is_outside (PlanMode kind index mode) = false
is_outside BadMagic = false
is_outside (TruncatedHeader bytes) = false
is_outside (TagType tag code) = false
is_outside (TagLength tag length) = false
is_outside NoRecordType = false
is_outside (UnknownRecordType value) = false
is_outside HeaderLimit = false
is_outside (TruncatedRecord bytes) = false
is_outside (ReservedRecord place word) = false
is_outside (BackwardTime place time before) = false
is_outside (RecordLimit limit) = false
is_outside (TimeLimit place) = false
is_outside NoTrace = false
is_outside (NoGroup group) = false
is_outside (PickTime place) = false

-- what each fault from outside says of its cause: an opening, a read, a write, want of memory
abbrev pub HasReason : (Slot → Type 0) → (Slot → Type 0) → Type 0 → Type 0 → Fault → Type 0
HasReason opening reading writing memory (OpenFault slot) = opening slot
HasReason opening reading writing memory (ReadFault slot) = reading slot
HasReason opening reading writing memory WriteFault = writing
HasReason opening reading writing memory OutOfMemory = memory
HasReason opening reading writing memory _ = Unit {0}

-- the fault of an answer, if it has one
abbrev pub fault_in : {X : Type 0} → Result X Fault → Option Fault
fault_in (Ok x) = None
fault_in (Err fault) = Some fault
