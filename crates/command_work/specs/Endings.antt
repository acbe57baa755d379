-- What a run of the program leaves, by what its command does.
use Rattle.std.specs.{Prelude.{ℕ, ◌≡◌, ◌⊎◌, ◌+◌, ◌≤◌, ◌<◌, List, ◌++◌, length, true, false, None, Some, Result, Ok, Err, IsErrAnd, IfErr}, declared.option.Option.Option}
use Rattle.tally_base.specs.{declared.{slot.Slot.{Slot, TheVariants.{Plan, Data}}, fault.Fault.{Fault, TheVariants.OpenFault}, header.Header.Header}, Faults.{line_of, is_outside, fault_in, HasReason}}
use Rattle.{tally_base.specs.{FaultCounts.Rose, RecordTypes.mode_of}, bench_io.specs.{Given.{IsOf, IsAtEnd}, Inputs.{File, InputState, IsOpened}, declared.inputs.Inputs.Ghosts as InputGhosts}}
use Rattle.{bench_io.specs.{declared.sink.Sink.Ghosts as SinkGhosts, Sinks.{SinkState, Wrote, WroteNone, WroteShort}}, ptu_definitions.specs.Headers.header_answer, plan_text.specs.Plan.PlanView}
use Rattle.{plan_text.specs.{Plan.parts_of, ReadPlan.{text_limit, plan_answer}, Fits.fits}, command_work.specs.{Outcomes.{InputsOnce, OutOnce, Outcome, refused, status}, Behaviours.piece_limit}}
use Rattle.command_work.specs.Behaviours.{Work, Writing, AtEnd, AsItReads, so_far, under, Memory, ForPlan, ForTables, Behaviour, Alone, OnFile, ByPlan}

-- ## What the files call for

abbrev pub on_file : Work → File → Outcome
on_file work None = refused (OpenFault Data)
on_file work (Some bytes) = work.outcome bytes

abbrev pub unless : Option Fault → Outcome → Outcome
unless None end = end
unless (Some fault) end = refused fault

-- the data are not looked at before the plan is good and lacks nothing
abbrev pub by_plan : (PlanView → Option Fault) → (PlanView → Work) → Result PlanView Fault → File → Outcome
by_plan lacks work (Err fault) data_file = refused fault
by_plan lacks work (Ok plan) data_file = unless (lacks plan) (on_file (work plan) data_file)

-- what a command ends with over the files of its words PLAN and FILE, where nothing outside fails
unfoldable pub outcome : Behaviour → File → File → Outcome
outcome (Alone end) plan_file data_file = end
outcome (OnFile file writing work) plan_file data_file = on_file work data_file
outcome (ByPlan plan file writing memory lacks work) None data_file = refused (OpenFault Plan)
outcome (ByPlan plan file writing memory lacks work) (Some text) data_file = by_plan lacks work (plan_answer text) data_file

-- each word FILE or PLAN is meant for its slot
abbrev pub IsMeant : InputState → Behaviour → Type 0
IsMeant state (Alone end) = Unit {0}
IsMeant state (OnFile file writing work) = state.meant Data file ≡ true
IsMeant state (ByPlan plan file writing memory lacks work) = (state.meant Plan plan ≡ true) × (state.meant Data file ≡ true)

-- The file is there and is this plan.
pub record IsPlan (plan_file : File) (plan : PlanView) : Type 0 where
  pub text : List ℕ
  pub present : plan_file ≡ Some text
  pub answer : plan_answer text ≡ Ok plan

-- ## The files of a run, by what its calls gave

-- This may be the file of a slot: where the slot was opened, the file is there, and its bytes are those that the reads gave with any after them, or with none where a read said the end. Of a slot that was not opened nothing is known.
abbrev pub FileOf : InputState → Slot → File → Type 0
FileOf after slot file = after.opened slot ≡ true → (bytes : List ℕ) × (file ≡ Some bytes) × IsOf (after.given slot) bytes

-- These may be the files of the words PLAN and FILE.
abbrev pub AreItsFiles : Behaviour → InputState → File → File → Type 0
AreItsFiles (Alone end) after plan_file data_file = Unit {0}
AreItsFiles (OnFile file writing work) after plan_file data_file = FileOf after Data data_file
AreItsFiles (ByPlan plan file writing memory lacks work) after plan_file data_file = FileOf after Plan plan_file × FileOf after Data data_file

-- This holds of the outcome over all such files, whatever stands after the bytes that were read.
abbrev pub ForItsFiles : Behaviour → InputState → (Outcome → Type 0) → Type 0
ForItsFiles does after holds_of = (plan_file data_file : File) → AreItsFiles does after plan_file data_file → holds_of (outcome does plan_file data_file)

-- What the reads of PLAN gave is this plan, whatever stands after it, and it lacks nothing.
pub record HasPlan (after : InputState) (lacks : PlanView → Option Fault) (plan : PlanView) : Type 0 where
  pub is_plan : (plan_file : File) → FileOf after Plan plan_file → IsPlan plan_file plan
  pub whole : lacks plan ≡ None

-- ## Files that are told

-- The inputs tell this file for the word FILE, if the command comes to it by such a file of PLAN: that of a plan that is refused or lacks something never does.
abbrev pub TellsData : InputState → Behaviour → File → File → Type 0
TellsData state (Alone end) plan_file data_file = Unit {0}
TellsData state (OnFile file writing work) plan_file data_file = state.contents file ≡ Some data_file
TellsData state (ByPlan plan file writing memory lacks work) plan_file data_file = (view : PlanView) → IsPlan plan_file view → lacks view ≡ None → state.contents file ≡ Some data_file

-- The inputs tell this file for the word PLAN.
abbrev pub TellsPlan : InputState → Behaviour → File → Type 0
TellsPlan state (Alone end) plan_file = Unit {0}
TellsPlan state (OnFile file writing work) plan_file = Unit {0}
TellsPlan state (ByPlan plan file writing memory lacks work) plan_file = state.contents plan ≡ Some plan_file

-- the inputs tell these files for the words PLAN and FILE
abbrev pub InputsHold : InputState → Behaviour → File → File → Type 0
InputsHold state does plan_file data_file = TellsPlan state does plan_file × TellsData state does plan_file data_file

-- A slot that was opened has the file of this name, where the inputs tell that.
abbrev pub OpensAs : Slot → InputState → InputState → List ℕ → Type 0
OpensAs slot before after name = after.opened slot ≡ true → IsOpened (before.contents name) (after.told slot)

-- the file that the inputs tell for this name may be the slot's
abbrev pub ReadAgrees : Slot → InputState → InputState → List ℕ → Type 0
ReadAgrees slot before after name = (file : File) → before.contents name ≡ Some file → FileOf after slot file

-- The file that they tell for a word may be its slot's, each for itself.
abbrev pub ReadsAgree : Behaviour → InputState → InputState → Type 0
ReadsAgree (Alone end) before after = Unit {0}
ReadsAgree (OnFile file writing work) before after = ReadAgrees Data before after file
ReadsAgree (ByPlan plan file writing memory lacks work) before after = ReadAgrees Plan before after plan × ReadAgrees Data before after file

-- ## What a run leaves

-- the run ended so, and its text was written
pub record EndsWith (outcome : Outcome) (fault : Option Fault) (old new : SinkState) : Type 0 where
  pub same : fault ≡ outcome.fault
  pub text : Wrote old new outcome.text

-- what a command leaves where the fault is not from outside: it ends as its files call for
abbrev pub Answers : Behaviour → InputState → Result (Unit {0}) Fault → SinkState → SinkState → Type 0
Answers does after result old new =
    IsErrAnd result (λ fault. is_outside fault ≡ true)
    ⊎ ForItsFiles does after (λ end. EndsWith end (fault_in result) old new)

-- what says that the file of PLAN is a plan which lacks nothing for the command
abbrev pub PlanSays : Type 1
PlanSays = (PlanView → Option Fault) → PlanView → Type 0

-- The command asks for this slot, and no earlier case ends the run.
abbrev pub Reaches : Behaviour → PlanSays → Slot → Type 0
Reaches (Alone end) is_plan slot = ⊥
Reaches (OnFile file writing work) is_plan Plan = ⊥
Reaches (OnFile file writing work) is_plan Data = Unit {0}
Reaches (ByPlan plan file writing memory lacks work) is_plan Plan = Unit {0}
Reaches (ByPlan plan file writing memory lacks work) is_plan Data = (view : PlanView) × is_plan lacks view

-- The bytes that the reads of FILE gave call for no end by themselves, and what the command writes of them meanwhile was written.
pub record StopsIn (writing : Writing (List ℕ → List ℕ)) (work : Work) (after : InputState) (old new : SinkState) : Type 0 where
  pub goes_on : work.goes_on (after.given Data).bytes
  pub text : Wrote old new (so_far writing (after.given Data).bytes)

-- What a run leaves on standard output where a read failed.
abbrev pub LeavesUnread : Behaviour → PlanSays → Slot → InputState → SinkState → SinkState → Type 0
LeavesUnread (Alone end) is_plan slot after old new = ⊥
LeavesUnread (OnFile file writing work) is_plan slot after old new = StopsIn writing work after old new
LeavesUnread (ByPlan plan file writing memory lacks work) is_plan Plan after old new = WroteNone old new × (length (after.given Plan).bytes ≤ text_limit)
LeavesUnread (ByPlan plan file writing memory lacks work) is_plan Data after old new = (view : PlanView) × is_plan lacks view × StopsIn (under view writing) (work view) after old new

-- A text was cut short. One that is written at the end is cut only where the run would have ended well.
abbrev pub Cuts : {A : Type 0} → Writing A → Outcome → SinkState → SinkState → Type 0
Cuts AtEnd end old new = (end.fault ≡ None) × WroteShort old new end.text
Cuts (AsItReads text) end old new = WroteShort old new end.text

abbrev pub CutsShort : Behaviour → Outcome → SinkState → SinkState → Type 0
CutsShort (Alone written) end old new = (end.fault ≡ None) × WroteShort old new end.text
CutsShort (OnFile file writing work) end old new = Cuts writing end old new
CutsShort (ByPlan plan file writing memory lacks work) end old new = Cuts writing end old new

-- The plan was opened and read to its end, and is no longer than a plan may be.
pub record HasWholePlan (after : InputState) : Type 0 where
  pub opened : after.opened Plan ≡ true
  pub ended : IsAtEnd (after.given Plan)
  pub few : length (after.given Plan).bytes ≤ text_limit

-- Memory may run out for a plan: for its text, before it is asked for; or for its document, once the whole was read.
abbrev pub WantsForPlan : InputState → Type 0
WantsForPlan after = (after.asked Plan ≡ false) ⊎ HasWholePlan after

-- The plan has a table, and the bytes that were taken from the file are a header that its parts suit, and less than one piece after it.
pub record StopsAtHeader (plan : PlanView) (taken : List ℕ) : Type 0 where
  pub tables : 0 < length (parts_of plan)
  pub header : Header
  pub behind : List ℕ
  pub answer : header_answer taken ≡ Ok (header, behind)
  pub suits : fits (mode_of header.record_type) plan ≡ Ok (tt {0})
  pub few : length behind < piece_limit

-- Memory may run out after these bytes of FILE: for tables, after the data's header.
abbrev pub WantsBehind : Memory → PlanView → List ℕ → Type 0
WantsBehind ForPlan plan taken = ⊥
WantsBehind ForTables plan taken = StopsAtHeader plan taken

-- The data were opened, after a plan that lacks nothing, and memory may run out after the bytes that their reads gave.
pub record StopsBehind (memory : Memory) (lacks : PlanView → Option Fault) (is_plan : PlanSays) (after : InputState) : Type 0 where
  pub plan : PlanView
  pub has : is_plan lacks plan
  pub opened : after.opened Data ≡ true
  pub wants : WantsBehind memory plan (after.given Data).bytes

-- What a run leaves that ends for want of memory: nothing is written, and the command takes memory there. By a plan that is for the plan, and the data were not asked for; or for its tables.
abbrev pub RunsOut : Behaviour → PlanSays → InputState → SinkState → SinkState → Type 0
RunsOut (Alone end) is_plan after old new = (end.fault ≡ None) × WroteNone old new
RunsOut (OnFile file writing work) is_plan after old new = ⊥
RunsOut (ByPlan plan file writing memory lacks work) is_plan after old new =
    WroteNone old new × (((after.asked Data ≡ false) × WantsForPlan after) ⊎ StopsBehind memory lacks is_plan after)

-- No more of a plan is read than one byte more than a plan may have.
abbrev pub TakesPlan : InputState → Type 0
TakesPlan after = after.opened Plan ≡ true → length (after.given Plan).bytes ≤ text_limit + 1

-- The bytes that the reads of FILE gave are some that call for no end by themselves, and no more after them than one read gives.
pub record TakesData (work : Work) (after : InputState) : Type 0 where
  pub front : List ℕ
  pub last : List ℕ
  pub all : (after.given Data).bytes ≡ front ++ last
  pub goes_on : work.goes_on front
  pub few : length last ≤ piece_limit

-- The data are asked for only after a plan that lacks nothing, and what is taken of them is what its work takes.
abbrev pub AsksByPlan : (PlanView → Option Fault) → (PlanView → Work) → PlanSays → InputState → Type 0
AsksByPlan lacks work is_plan after = after.asked Data ≡ true → (view : PlanView) × is_plan lacks view × (after.opened Data ≡ true → TakesData (work view) after)

-- What a command asks for and takes, however it ends. Without a word PLAN it never asks for a plan, and without a word FILE it leaves the inputs as they were.
-- The data are asked for only after a plan that lacks nothing, and opened only where they are asked for.
abbrev pub Asks : Behaviour → PlanSays → InputState → InputState → Type 0
Asks (Alone end) is_plan before after = after ≡ before
Asks (OnFile file writing work) is_plan before after = (after.asked Plan ≡ false) × (after.opened Data ≡ true → TakesData work after)
Asks (ByPlan plan file writing memory lacks work) is_plan before after = TakesPlan after × AsksByPlan lacks work is_plan after × (after.opened Data ≡ true → after.asked Data ≡ true)

-- A fault has its line on standard error, and no write there failed; or a prefix of it where one did.
abbrev pub TellsFault : SinkState → SinkState → Option Fault → Type 0
TellsFault old new None = WroteNone old new
TellsFault old new (Some fault) = Wrote old new (line_of fault) ⊎ WroteShort old new (line_of fault)

-- The top call ended so: by the status of the fault, with the whole text on standard output, and the fault's line on standard error.
abbrev pub EndsBy : Outcome → ℕ → SinkState → SinkState → SinkState → SinkState → Type 0
EndsBy end result old new err_old err_new = (result ≡ status end.fault) × Wrote old new end.text × TellsFault err_old err_new end.fault

-- the states of the inputs and of standard output before a command and after it
pub record Span : Type 0 where
  pub before : InputState
  pub after : InputState
  pub old : SinkState
  pub new : SinkState

-- those of these inputs and of this output
abbrev pub span : {I O : Type 0} → InputGhosts I → SinkGhosts O → I → I → O → O → Span
span i o before after old new = record {
  before = i.state before;
  after = i.state after;
  old = o.state old;
  new = o.state new;
}

-- those of this output, where the inputs stay as they are
abbrev pub alone_span : {O : Type 0} → SinkGhosts O → InputState → O → O → Span
alone_span o state old new = record {
  before = state;
  after = state;
  old = o.state old;
  new = o.state new;
}

-- No count moved but the one that the fault tells of, by one: nothing else failed.
pub record Once (span : Span) (fault : Option Fault) : Type 0 where
  pub inputs : InputsOnce span.before span.after fault
  pub out : OutOnce fault span.old span.new

-- An opening failed: the command came to the slot, the count of its openings that failed rose, and nothing was written.
abbrev pub FailsOpening : Behaviour → Slot → InputState → InputState → SinkState → SinkState → Type 0
FailsOpening does slot before after old new = Reaches does (HasPlan after) slot × Rose (before.open_faults slot) (after.open_faults slot) × WroteNone old new

-- A read of the slot failed: the count of those rose.
abbrev pub ReadFailed : Slot → InputState → InputState → Type 0
ReadFailed slot before after = Rose (before.read_faults slot) (after.read_faults slot)

-- A read failed: the command came to the slot, which was opened and of which no read had said the end, the count of its reads that failed rose, and standard output holds what was called for so far.
abbrev pub FailsReading : Behaviour → Slot → InputState → InputState → SinkState → SinkState → Type 0
FailsReading does slot before after old new = Reaches does (HasPlan after) slot × (after.opened slot ≡ true) × ¬ (IsAtEnd (after.given slot)) × ReadFailed slot before after × LeavesUnread does (HasPlan after) slot after old new

-- The text that its files call for was cut short.
abbrev pub CutsOutcome : Behaviour → InputState → SinkState → SinkState → Type 0
CutsOutcome does after old new = ForItsFiles does after (λ end. CutsShort does end old new)

-- what a command's fault from outside says: which count rose, and what was written
unfoldable pub HasCauses : Behaviour → Span → Fault → Type 0
HasCauses does span = HasReason
    (λ slot. FailsOpening does slot span.before span.after span.old span.new)
    (λ slot. FailsReading does slot span.before span.after span.old span.new)
    (Rose span.old.faults span.new.faults × CutsOutcome does span.after span.old span.new)
    (RunsOut does (HasPlan span.after) span.after span.old span.new)

-- all that a command does
pub record LeavesCommand (behaves : Behaviour) (span : Span) (result : Result (Unit {0}) Fault) : Type 0 where
  pub answer : Answers behaves span.after result span.old span.new
  pub causes : IfErr result (HasCauses behaves span)
  pub asks : Asks behaves (HasPlan span.after) span.before span.after
  pub once : Once span (fault_in result)
  pub files : ReadsAgree behaves span.before span.after

-- ## Good words and files

-- The status is that of want of memory, and the command takes memory.
abbrev pub LacksMemory : Behaviour → ℕ → Type 0
LacksMemory (Alone end) result = (end.fault ≡ None) × (result ≡ 5)
LacksMemory (OnFile file writing work) result = ⊥
LacksMemory (ByPlan plan file writing memory lacks work) result = result ≡ 5

-- No opening and no read has failed in a run.
abbrev pub NoneRose : InputState → InputState → Type 0
NoneRose before after = (slot : Slot) → ¬ (Rose (before.open_faults slot) (after.open_faults slot)) × ¬ (Rose (before.read_faults slot) (after.read_faults slot))

-- The file is there and good for this work.
abbrev pub IsGoodFor : Work → File → Type 0
IsGoodFor work None = ⊥
IsGoodFor work (Some bytes) = work.good bytes

-- The words are a command, and its files are good ones.
abbrev pub IsGood : Behaviour → File → File → Type 0
IsGood (Alone end) plan_file data_file = end.fault ≡ None
IsGood (OnFile file writing work) plan_file data_file = IsGoodFor work data_file
IsGood (ByPlan plan file writing memory lacks work) plan_file data_file = (view : PlanView) × IsPlan plan_file view × (lacks view ≡ None) × IsGoodFor (work view) data_file
