-- What a run of the whole program leaves, by what its words ask for.
use Rattle.std.specs.{Prelude.{ℕ, ◌≡◌, ◌⊎◌, ◌↔◌, ◌≤◌, ◌<◌, None, Some}, declared.option.Option.Option}
use Rattle.{tally_base.specs.{declared.{slot.Slot.Slot, fault.Fault.{Fault, TheVariants.{OpenFault, ReadFault, WriteFault, OutOfMemory}}}, FaultCounts.Rose}, bench_io.specs.Inputs.{File, InputState}}
use Rattle.{bench_io.specs.{declared.{inputs.Inputs.Ghosts as InputGhosts, sink.Sink.Ghosts as SinkGhosts}, Sinks.SinkState}, ptu_cli.specs.{Commands.Request, Behaviours.behaviour}}
use Rattle.command_work.specs.{Outcomes.{InputsOnce, OutOnce, Outcome, status}, Endings.{HasPlan, AreItsFiles, ForItsFiles, ReadsAgree, TellsFault, EndsBy, FailsOpening, FailsReading, CutsOutcome}}
use Rattle.command_work.specs.Endings.{RunsOut, Asks, LacksMemory, NoneRose, IsGood}

-- The states before a run and after it: of the inputs, of standard output and of standard error.
pub record Around : Type 0 where
  pub before : InputState
  pub after : InputState
  pub out_before : SinkState
  pub out_after : SinkState
  pub err_before : SinkState
  pub err_after : SinkState

-- those of these inputs, of this standard output and of this standard error
abbrev pub around : {I O E : Type 0} → InputGhosts I → SinkGhosts O → SinkGhosts E → I → I → O → O → E → E → Around
around i o e before after out_before out_after err_before err_after = record {
  before = i.state before;
  after = i.state after;
  out_before = o.state out_before;
  out_after = o.state out_after;
  err_before = e.state err_before;
  err_after = e.state err_after;
}

-- this fault's line is on standard error and no write there failed, or a prefix of it where one did; without a fault nothing is
abbrev pub TellsOn : Around → Option Fault → Type 0
TellsOn run fault = TellsFault run.err_before run.err_after fault

-- standard output and standard error hold what the outcome says, and the status is its
abbrev pub EndsIn : Around → ℕ → Outcome → Type 0
EndsIn run result end = EndsBy end result run.out_before run.out_after run.err_before run.err_after

-- No count of the inputs and of standard output moved but the one that the fault tells of, by one.
abbrev pub MovesOnly : Around → Option Fault → Type 0
MovesOnly run fault = InputsOnce run.before run.after fault × OutOnce fault run.out_before run.out_after

-- No count of the inputs and of standard output rose.
abbrev pub NothingFailed : Around → Type 0
NothingFailed run = NoneRose run.before run.after × ¬ (Rose run.out_before.faults run.out_after.faults)

-- The promise of the whole program.
pub record Runs (request : Option Request) (run : Around) (result : ℕ) : Type 0 where
  -- Where nothing outside failed, it ends as its files call for: all that may be them by what the calls gave, whatever stands after.
  pub answered : (2 ≤ result → 5 < result) → ForItsFiles (behaviour request) run.after (λ end. EndsIn run result end)
  -- The status is 0, or that of one fault, whose line is told. With 0 nothing is told.
  pub told : (fault : Option Fault) × (result ≡ status fault) × TellsOn run fault
  -- The command line is bad exactly where the words are no command.
  pub usage : (result ≡ 1) ↔ (request ≡ None)
  -- An opening failed.
  pub unopened : result ≡ 2 → (slot : Slot) × FailsOpening (behaviour request) slot run.before run.after run.out_before run.out_after × TellsOn run (Some (OpenFault slot))
  -- A read failed, of a file whose end no read had said.
  pub unread : result ≡ 3 → (slot : Slot) × FailsReading (behaviour request) slot run.before run.after run.out_before run.out_after × TellsOn run (Some (ReadFault slot))
  -- A write failed.
  pub unwritten : result ≡ 4 → Rose run.out_before.faults run.out_after.faults × CutsOutcome (behaviour request) run.after run.out_before run.out_after × TellsOn run (Some WriteFault)
  -- It ends for want of memory where it takes memory. That memory was refused is not said.
  pub memory : result ≡ 5 → RunsOut (behaviour request) (HasPlan run.after) run.after run.out_before run.out_after × TellsOn run (Some OutOfMemory)
  -- What it asked for and took, whatever its status is.
  pub asks : Asks (behaviour request) (HasPlan run.after) run.before run.after
  -- It does not go on after a call that failed: with status 0 no count of the inputs and of standard output moved, and else none but the one of the fault whose line is told, by one.
  pub once : (fault : Option Fault) × (result ≡ status fault) × TellsOn run fault × MovesOnly run fault
  -- Where no count of the inputs and of standard output rose, it ends as its files call for or for want of memory, and well where they are good.
  pub complete : NothingFailed run → LacksMemory (behaviour request) result ⊎ ForItsFiles (behaviour request) run.after (λ end. result ≡ status end.fault)
  pub good : (plan_file data_file : File) → AreItsFiles (behaviour request) run.after plan_file data_file → IsGood (behaviour request) plan_file data_file → NothingFailed run → LacksMemory (behaviour request) result ⊎ (result ≡ 0)
  -- The file that the inputs tell for the word PLAN may be that of the plan, and that for FILE that of the data, each for itself.
  pub files : ReadsAgree (behaviour request) run.before run.after
