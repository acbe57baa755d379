-- The statuses of refusals of bytes.
use Rattle.std.proofs.Common.{◌≡◌, ℕ, List, [], Bool, true, None, Some, Ok, Err, subst, arith, rules, ◌≢◌, ◌≤◌, ◌==◌, Result, length, if◌then◌else◌}
use Rattle.{std.specs.declared.option.Option.Option, tally_base.specs.declared.fault.Fault.{Fault, TheVariants.{HeaderLimit, TruncatedHeader, RecordLimit}}}
use Rattle.tally_base.specs.declared.{fault.Fault.TheVariants.{ReservedRecord, TimeLimit, OutOfMemory}, header.{Header.Header, RecordType.RecordType}}
use Rattle.tally_base.specs.{declared.{header.Mode.Mode, event.Event.Event}, Events.{stops_late, stops_reserved}, Faults.status_of}
use Rattle.ptu_definitions.specs.{declared.found.Found.Found, Words.words_of, Endings.{Ending, OtherFile, BadType, BadLength, Whole, Open}, Fields.found_in}
use Rattle.ptu_definitions.specs.{Fields.{header_of, version_in, with_type, with_value}, Headers.{head_of, answer_as, with_rest, header_limit}, Streams.IsFirst}
use Rattle.{ptu_definitions.specs.Streams.{StreamSettings, late_refusal, refusal}, command_work.specs.Outcomes.IsIn, plan_text.specs.Plan.PlanView}
use Rattle.plan_text.{specs.{ReadPlan.IsCalledFor, Fits.IsMisfit}, proofs.Misfits.names_part}

abbrev pub StatusIn : ℕ → ℕ → Fault → Type 0
StatusIn low high fault = IsIn low high (status_of fault)

-- what an answer of a header says of its fault
abbrev pub InHeader : {A : Type 0} → Result A Fault → Type 0
InHeader (Ok value) = Unit {0}
InHeader (Err fault) = StatusIn 10 16 fault

with_rest-in : (rest : List ℕ) (r : Result Header Fault) → InHeader r → InHeader (with_rest rest r)
with_rest-in rest r h = search (rules, arith)

with_type-in : (version : List ℕ) (found : Found) (value : ℕ) (record_type : Option RecordType) → InHeader (with_type version found value record_type)
with_type-in version found value record_type = search (rules, arith)

with_value-in : (version : List ℕ) (found : Found) (value : Option ℕ) → InHeader (with_value version found value)
with_value-in version found value = search (rules, arith, with_type-in)

header_of-in : (version : List ℕ) (found : Found) → InHeader (header_of version found)
unfolding header_of
header_of-in version found = with_value-in version found found.record_type

unfinished-in : (whole : Bool) (size : ℕ) → StatusIn 10 16 (if whole then HeaderLimit else TruncatedHeader size)
unfinished-in whole size = search (rules, arith)

pub answer_as-in : (file : List ℕ) (end : Ending) → InHeader (answer_as file end)
answer_as-in file OtherFile = (omega arith, omega arith)
answer_as-in file (BadType number code) = (omega arith, omega arith)
answer_as-in file (BadLength number value) = (omega arith, omega arith)
answer_as-in file (Whole items) = with_rest-in _ (header_of (version_in file) (found_in items)) (header_of-in (version_in file) (found_in items))
answer_as-in file Open = unfinished-in (length (head_of file) == header_limit) (length (head_of file))

-- the fault of a refusal, where there is one
abbrev pub OfSome : (Fault → Type 0) → Option Fault → Type 0
OfSome holds None = Unit {0}
OfSome holds (Some fault) = holds fault

late_refusal-in : (k : ℕ) (mode : Mode) (before es : List Event) → OfSome (StatusIn 18 21) (late_refusal k mode before es)
late_refusal-in k mode before es = search (rules, arith)

causes-in : (least : ℕ) → least ≤ 20 → (full reserved passing stops : Bool) (limit place word : ℕ) (late : Option Fault) → (reserved ≡ true → least ≤ 18)
    → (stops ≡ true → OfSome (StatusIn least 21) late)
    → OfSome (StatusIn least 21) (if full then Some (RecordLimit limit) else if reserved then Some (ReservedRecord place word)
    else if passing then Some (TimeLimit place) else if stops then late else None)
causes-in least few full reserved passing stops limit place word late own h = search (rules, arith)

pub refusal-in : (how : StreamSettings) (before : List ℕ) (word least : ℕ) → least ≤ 20 → (stops_reserved how.policy.reserved ≡ true → least ≤ 18)
    → (stops_late how.policy.order ≡ true → least ≤ 18) → OfSome (StatusIn least 21) (refusal how before word)
unfolding refusal
refusal-in how before word least few reserved late = search (rules, arith, causes-in, late_refusal-in)

pub least-status : (how : StreamSettings) (behind : List ℕ) (fault : Fault) → IsFirst how fault [] (words_of behind) → StatusIn 18 21 fault
least-status how behind fault h =
    subst (OfSome (StatusIn 18 21)) h.refused (refusal-in how _ h.word 18 (omega arith) (λ stops. omega arith) (λ stops. omega arith))

-- ## Refusals of a plan, and of a file by a plan

pub called-status : (text : List ℕ) (fault : Fault) → IsCalledFor text fault → fault ≢ OutOfMemory → StatusIn 6 8 fault
called-status text fault h other = search (rules, arith)

pub misfit-status : (mode : Mode) (view : PlanView) (fault : Fault) → IsMisfit mode view fault → StatusIn 9 9 fault
misfit-status mode view fault misfit = rw (names_part mode view fault misfit).2 (omega arith, omega arith)
