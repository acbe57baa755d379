-- How a command comes to its end, and what it does with the bytes of FILE.
use Rattle.std.specs.{Prelude.{ℕ, ◌≡◌, ◌≤◌, List, [], length, None, Ok}, declared.option.Option.Option}
use Rattle.{tally_base.specs.declared.{fault.Fault.Fault, header.Header.Header}, ptu_definitions.specs.{Headers.header_answer, Words.{words_of, rest_of, record_limit}, Streams.StreamSettings}}
use Rattle.{ptu_definitions.specs.Streams.record_refusal, plan_text.specs.Plan.PlanView, command_work.specs.Outcomes.Outcome}

-- the bytes that one read of FILE takes at most
abbrev pub piece_limit : ℕ
piece_limit = 8192

-- What a command does with the bytes of FILE.
pub record Work : Type 1 where
  -- what it ends with, where these are all bytes
  pub outcome : List ℕ → Outcome
  -- these bytes call for no end by themselves: more of them may change it
  pub goes_on : List ℕ → Type 0
  -- a file of these bytes is a good one
  pub good : List ℕ → Type 0

-- When a text is written: at the end, and only where the run ends well; or while the file is read. Then it is told what has been written of the bytes so far.
pub data Writing (A : Type 0) : Type 0 where
  AtEnd : Writing A
  AsItReads : (so_far : A) → Writing A

-- what a command has written of the bytes of FILE, where the next read fails
abbrev pub so_far : Writing (List ℕ → List ℕ) → List ℕ → List ℕ
so_far AtEnd bytes = []
so_far (AsItReads text) bytes = text bytes

-- the same by a plan
abbrev pub under : PlanView → Writing (PlanView → List ℕ → List ℕ) → Writing (List ℕ → List ℕ)
under plan AtEnd = AtEnd
under plan (AsItReads text) = AsItReads (text plan)

-- what memory may run out for, where there is a plan: for the plan alone, before the data are opened; or also for its tables, right after the header
pub data Memory : Type 0 where
  ForPlan : Memory
  ForTables : Memory

-- How a command comes to its end.
pub data Behaviour : Type 1 where
  -- There is neither a word PLAN nor a word FILE, or the words are no command. The text is written at the end, and memory may run out where it would end well.
  Alone : (end : Outcome) → Behaviour
  -- FILE is opened and read. No memory is taken.
  OnFile : (file : List ℕ) (writing : Writing (List ℕ → List ℕ)) (work : Work) → Behaviour
  -- PLAN is read whole. Where it is a plan and lacks nothing, FILE is opened and read.
  ByPlan : (plan file : List ℕ) (writing : Writing (PlanView → List ℕ → List ℕ)) (memory : Memory) (lacks : PlanView → Option Fault) (work : PlanView → Work) → Behaviour

-- ## Good files

-- The records after a header are few enough and whole.
pub record AreWhole (behind : List ℕ) : Type 0 where
  pub few : length (words_of behind) ≤ record_limit
  pub whole : rest_of behind ≡ []

-- The records after a header are whole, and none is refused.
pub record AreRead (how : StreamSettings) (behind : List ℕ) : Type 0 where
  pub unrefused : record_refusal how (words_of behind) ≡ None
  pub whole : rest_of behind ≡ []

-- The bytes have a header, and this holds of it and of the bytes after it.
abbrev pub IsHeaded : (Header → List ℕ → Type 0) → List ℕ → Type 0
IsHeaded holds bytes = (header : Header) × (behind : List ℕ) × (header_answer bytes ≡ Ok (header, behind)) × holds header behind
