-- What a command's work on the bytes of FILE leaves.
use Rattle.std.specs.{Prelude.{ℕ, ◌≡◌, ◌⊎◌, ◌≤◌, List, ◌++◌, length, true, Result, IsErrAnd, IfErr}, declared.option.Option.Option}
use Rattle.{tally_base.specs.{declared.{slot.Slot.TheVariants.Data, fault.Fault.Fault}, FaultCounts.Rose, Faults.{is_outside, fault_in, HasReason}}, bench_io.specs.Given.{Given, Consumes, MayFollow}}
use Rattle.{bench_io.specs.Sinks.{SinkState, Wrote, WroteNone}, plan_text.specs.Plan.PlanView, command_work.specs.{Outcomes.{Decides, SaysNoEnd}, Behaviours.{piece_limit, Work, Writing, Memory}}}
use Rattle.command_work.specs.{Behaviours.{so_far, under}, Endings.{Cuts, Span, Once, WantsBehind}}

-- The bytes taken end so, whatever may stand after them, and this text was written.
pub record EndsWork (work : Work) (start now : Given) (old new : SinkState) (fault : Option Fault) : Type 0 where
  pub taken : List ℕ
  pub consumes : Consumes start now taken
  pub text : List ℕ
  pub written : Wrote old new text
  pub says : Decides work.outcome taken now (record { text = text; fault = fault })

-- A fault from outside, or the end that the bytes call for.
abbrev pub AnswersWork : Work → Given → Given → SinkState → SinkState → Result (Unit {0}) Fault → Type 0
AnswersWork work start now old new result = IsErrAnd result (λ fault. is_outside fault ≡ true) ⊎ EndsWork work start now old new (fault_in result)

-- What is written of the bytes taken was written, more of them may change the end, and no read said that there are none.
pub record ReadsWork (writing : Writing (List ℕ → List ℕ)) (work : Work) (start now : Given) (old new : SinkState) : Type 0 where
  pub taken : List ℕ
  pub consumes : Consumes start now taken
  pub written : Wrote old new (so_far writing taken)
  pub goes_on : work.goes_on taken
  pub unended : SaysNoEnd start now

-- The text of the bytes taken was cut short, whatever may stand after them.
pub record CutsWork (writing : Writing (List ℕ → List ℕ)) (work : Work) (start now : Given) (old new : SinkState) : Type 0 where
  pub taken : List ℕ
  pub consumes : Consumes start now taken
  pub cut : (more : List ℕ) → MayFollow now more → Cuts writing (work.outcome (taken ++ more)) old new

-- Nothing was written, and the bytes taken are some after which memory may run out.
pub record WantsWork (wanting : List ℕ → Type 0) (start now : Given) (old new : SinkState) : Type 0 where
  pub keeps : WroteNone old new
  pub taken : List ℕ
  pub consumes : Consumes start now taken
  pub wants : wanting taken

-- memory never runs out
abbrev pub WantsNone : List ℕ → Type 0
WantsNone taken = ⊥

-- Why the work ended by a fault from outside.
abbrev pub WorkReason : Writing (List ℕ → List ℕ) → (List ℕ → Type 0) → Work → Span → Fault → Type 0
WorkReason writing wanting work span = HasReason
    (λ slot. ⊥)
    (λ slot. (slot ≡ Data) × Rose (span.before.read_faults slot) (span.after.read_faults slot) × ReadsWork writing work (span.before.given Data) (span.after.given Data) span.old span.new)
    (Rose span.old.faults span.new.faults × CutsWork writing work (span.before.given Data) (span.after.given Data) span.old span.new)
    (WantsWork wanting (span.before.given Data) (span.after.given Data) span.old span.new)

-- The bytes taken are some that call for no end by themselves, and no more after them than one read gives.
pub record TakesFew (goes_on : List ℕ → Type 0) (start now : Given) : Type 0 where
  pub front : List ℕ
  pub last : List ℕ
  pub consumes : Consumes start now (front ++ last)
  pub goes : goes_on front
  pub few : length last ≤ piece_limit

-- What the work leaves.
pub record LeavesWork (writing : Writing (List ℕ → List ℕ)) (wanting : List ℕ → Type 0) (work : Work) (span : Span) (result : Result (Unit {0}) Fault) : Type 0 where
  -- how it ended
  pub answer : AnswersWork work (span.before.given Data) (span.after.given Data) span.old span.new result
  -- why it ended by a fault from outside
  pub reason : IfErr result (WorkReason writing wanting work span)
  -- no count moved but the one that the fault tells of
  pub once : Once span (fault_in result)
  -- few bytes were taken
  pub few : TakesFew work.goes_on (span.before.given Data) (span.after.given Data)

-- The same of work by a plan.
abbrev pub LeavesPlanned : Writing (PlanView → List ℕ → List ℕ) → Memory → (PlanView → Work) → PlanView → Span → Result (Unit {0}) Fault → Type 0
LeavesPlanned writing memory work plan = LeavesWork (under plan writing) (WantsBehind memory plan) (work plan)
