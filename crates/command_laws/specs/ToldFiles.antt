-- What a run leaves over files that its inputs tell.
use Rattle.std.specs.{Prelude.{ℕ, ◌≡◌, ◌⊎◌, ◌≤◌, ◌<◌, true, None, Some}, declared.option.Option.Option}
use Rattle.{tally_base.specs.{declared.{slot.Slot.Slot, fault.Fault.{Fault, TheVariants.{OpenFault, ReadFault, WriteFault, OutOfMemory}}}, FaultCounts.Rose}, bench_io.specs.Inputs.File}
use Rattle.{bench_io.specs.{Given.IsAtEnd, Sinks.WroteNone}, plan_text.specs.Plan.PlanView, ptu_cli.specs.{Commands.Request, Runs.{Around, TellsOn, EndsIn, NothingFailed}, Behaviours.behaviour}}
use Rattle.command_work.specs.{Outcomes.status, Behaviours.Behaviour, Endings.{outcome, IsPlan, AreItsFiles, InputsHold, Reaches, LeavesUnread, CutsShort, RunsOut, Asks, LacksMemory, IsGood}}

-- The file is this plan, and it lacks nothing.
abbrev pub IsGoodPlan : File → (PlanView → Option Fault) → PlanView → Type 0
IsGoodPlan plan_file lacks view = IsPlan plan_file view × (lacks view ≡ None)

-- What a run leaves whose inputs tell these files. (That its status names one fault, that a bad command line is told exactly where the words are none, and that it makes no call again are in `Runs`, which speaks of no file there.)
pub record RunsOver (does : Behaviour) (plan_file data_file : File) (run : Around) (result : ℕ) : Type 0 where
  -- A file that was opened is there. The bytes that were given are the first of it, and all where a read said the end.
  pub files : AreItsFiles does run.after plan_file data_file
  -- Where nothing outside failed, it ends as its files call for.
  pub answered : (2 ≤ result → 5 < result) → EndsIn run result (outcome does plan_file data_file)
  -- An opening failed.
  pub unopened : result ≡ 2 → (slot : Slot) × Reaches does (IsGoodPlan plan_file) slot × Rose (run.before.open_faults slot) (run.after.open_faults slot) × WroteNone run.out_before run.out_after × TellsOn run (Some (OpenFault slot))
  -- A read failed, of a file whose end no read had said.
  pub unread : result ≡ 3 → (slot : Slot) × Reaches does (IsGoodPlan plan_file) slot × (run.after.opened slot ≡ true) × ¬ (IsAtEnd (run.after.given slot)) × Rose (run.before.read_faults slot) (run.after.read_faults slot) × LeavesUnread does (IsGoodPlan plan_file) slot run.after run.out_before run.out_after × TellsOn run (Some (ReadFault slot))
  -- A write failed.
  pub unwritten : result ≡ 4 → Rose run.out_before.faults run.out_after.faults × CutsShort does (outcome does plan_file data_file) run.out_before run.out_after × TellsOn run (Some WriteFault)
  -- It ends for want of memory where it takes memory. That memory was refused is not said.
  pub memory : result ≡ 5 → RunsOut does (IsGoodPlan plan_file) run.after run.out_before run.out_after × TellsOn run (Some OutOfMemory)
  -- What it asked for and took, whatever its status is.
  pub asks : Asks does (IsGoodPlan plan_file) run.before run.after
  -- Where no count of the inputs and of standard output rose, it ends as its files call for or for want of memory, and well where they are good.
  pub complete : NothingFailed run → LacksMemory does result ⊎ (result ≡ status (outcome does plan_file data_file).fault)
  pub good : IsGood does plan_file data_file → NothingFailed run → LacksMemory does result ⊎ (result ≡ 0)

-- so it is for each run, over all files that its inputs tell
abbrev pub OverToldFiles : Option Request → Around → ℕ → Type 0
OverToldFiles request run result = (plan_file data_file : File) → InputsHold run.before (behaviour request) plan_file data_file → RunsOver (behaviour request) plan_file data_file run result
