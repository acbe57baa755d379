-- How each command may end and what it is refused for, told once: a table for each command, of lines that commands share and of its own in `Cases`. As in `Cases`, no function is cited that finds an answer for the program.
use Rattle.std.specs.{Prelude.{ℕ, ◌≡◌, ◌≢◌, List, [], None, Some, Ok, Err}, declared.option.Option.Option}
use Rattle.{toml.specs.Data.{Members, table}, tally_base.specs.declared.{slot.Slot.TheVariants.{Plan, Data}, fault.Fault.{Fault, TheVariants.{Usage, OpenFault, OutOfMemory, NoTrace, NoGroup}}}}
use Rattle.{tally_base.specs.{declared.header.Header.Header, RecordTypes.mode_of}, bench_io.specs.Inputs.File, ptu_definitions.specs.Headers.HasAnswer, plan_text.specs.Plan.{PlanView, plan}}
use Rattle.{plan_text.specs.{ReadPlan.{document, IsValid, IsCalledFor}, Fits.IsMisfit}, gate_plan.specs.Histories.reading_by, ptu_made.specs.{Generator.made_words, Records.made_header}}
use Rattle.ptu_cli.specs.{Commands.{Request, Count, Events, Run, Trace, Pick, Demo, Header as HeaderOf}, Tables.{AtWords, AtFile, AtPlan, AtNeed, AtMode, AtHeader, Well, Lines, NoLine, Line, within}}
use Rattle.{ptu_cli.specs.{Tables.Applies, Cases.{count_lines, print_lines, stream_lines, list_text, words_report, trace_lines, HasTrace, pick_lines, HasGroup}}, report_work.specs.Demo.demo_plan}
use Rattle.{command_work.specs.Outcomes.{Outcome, refused, written}, file_work.specs.FileOutcomes.listing}

-- ## Lines that commands share

-- FILE is not there, or it is these bytes.
abbrev pub file_lines : {K : Type 0} → Lines K (List ℕ) → Lines K File
file_lines lines =
    Line AtFile 2 2 (λ known file end. (file ≡ None) × (end ≡ refused (OpenFault Data)))
    (within (λ known file bytes. file ≡ Some bytes) (λ known file bytes. known) (λ known file bytes. bytes) lines)

-- The bytes are refused as a header, or have one with others after it.
abbrev pub header_lines : {K : Type 0} → Lines K (Header × List ℕ) → Lines K (List ℕ)
header_lines lines =
    Line AtHeader 10 16 (λ known bytes end. (fault : Fault) × HasAnswer bytes (Err fault) × (end ≡ refused fault))
    (within (λ known bytes found. HasAnswer bytes (Ok found)) (λ known bytes found. known) (λ known bytes found. found) lines)

-- each part suits the file's mode
abbrev pub Suits : PlanView → Header → Type 0
Suits view header = (fault : Fault) → IsMisfit (mode_of header.record_type) view fault → ⊥

-- The first part that does not suit the file's mode is refused, or each suits it.
abbrev pub suited_lines : Lines PlanView (Header × List ℕ) → Lines PlanView (Header × List ℕ)
suited_lines lines =
    Line AtMode 9 9 (λ view found end. (fault : Fault) × IsMisfit (mode_of found.0.record_type) view fault × (end ≡ refused fault))
    (within {Z = Unit {0}} (λ view found suits. Suits view found.0) (λ view found suits. view) (λ view found suits. found) lines)

-- The file is there, and its bytes are this plan.
pub record IsValidPlan (plan_file : File) (view : PlanView) : Type 0 where
  pub text : List ℕ
  pub ms : Members
  pub present : plan_file ≡ Some text
  pub is_valid : IsValid text
  pub document_is : document text ≡ Some ms
  pub view_is : view ≡ plan (table ms)

-- What a plan must have for a command, and the fault of one that lacks it, with its status.
pub data Need : Type 1 where
  NeedsNothing : Need
  Needs : (status : ℕ) (has : PlanView → Type 0) (lack : Fault) → Need

-- the plan has what is needed
abbrev pub Has : Need → PlanView → Type 0
Has NeedsNothing view = Unit {0}
Has (Needs status has lack) view = has view

-- A plan without what is needed is refused.
abbrev pub need_lines : Need → Lines File File → Lines File File
need_lines NeedsNothing lines = lines
need_lines (Needs status has lack) lines =
    Line AtNeed status status (λ plan_file data_file end. (view : PlanView) × IsValidPlan plan_file view × (has view → ⊥) × (end ≡ refused lack)) lines

-- PLAN is not there, its bytes call for a refusal, or it lacks what is needed. Else it is a plan, and FILE is looked at.
abbrev pub plan_lines : Need → Lines PlanView File → Lines File File
plan_lines need lines =
    Line AtFile 2 2 (λ plan_file data_file end. (plan_file ≡ None) × (end ≡ refused (OpenFault Plan)))
    (Line AtPlan 6 8 (λ plan_file data_file end. (text : List ℕ) × (fault : Fault) × (plan_file ≡ Some text) × IsCalledFor text fault × (fault ≢ OutOfMemory) × (end ≡ refused fault))
    (need_lines need (within (λ plan_file data_file view. IsValidPlan plan_file view × Has need view) (λ plan_file data_file view. view) (λ plan_file data_file view. data_file) lines)))

-- FILE by a plan, after a header that suits it
abbrev pub planned_lines : Need → Lines PlanView (Header × List ℕ) → Lines File File
planned_lines need lines = plan_lines need (file_lines (header_lines (suited_lines lines)))

-- ## The commands

-- The table of each command: over the file of its word PLAN, which is what is known, and that of FILE.
abbrev pub cases : Option Request → Lines File File
cases None = Line AtWords 1 1 (λ plan_file data_file end. end ≡ refused Usage) NoLine
cases (Some (Count file)) = file_lines (header_lines count_lines)
cases (Some (HeaderOf file)) = file_lines print_lines
cases (Some (Events file)) = file_lines (header_lines (stream_lines 20 21 (λ known. listing) (λ known. list_text) (λ known. list_text)))
cases (Some (Run plan file)) = planned_lines NeedsNothing (stream_lines 18 21 reading_by (λ view header words. []) words_report)
cases (Some (Trace plan file)) = planned_lines (Needs 22 HasTrace NoTrace) trace_lines
cases (Some (Pick plan group file)) = planned_lines (Needs 23 (HasGroup group) (NoGroup group)) (pick_lines group)
cases (Some (Demo seed count)) = Line Well 0 0 (λ plan_file data_file end. end ≡ written (words_report demo_plan made_header (made_words seed count))) NoLine

-- what the words ask for ends so
abbrev pub IsOutcome : Option Request → File → File → Outcome → Type 0
IsOutcome request = Applies (cases request)
