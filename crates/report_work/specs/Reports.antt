-- What running a plan over a file reports.
use Rattle.std.specs.{Prelude.{ℕ, ◌≡◌, List, None, Result, Ok, Err, ◌<◌, [], length}, declared.option.Option.Option}
use Rattle.{tally_base.specs.{declared.{fault.Fault.Fault, header.Header.Header}, RecordTypes.mode_of}, ptu_definitions.specs.{declared.records.Summary.Summary, Words.words_of, Streams.streamed}}
use Rattle.{ptu_definitions.specs.Streams.record_refusal, plan_text.specs.{Plan.{PlanView, parts_of}, Fits.fits}, gate_plan.specs.{Shifting.sorting, Histories.{history, reading_by}}}
use Rattle.{table_out.specs.Report.{report, with_events}, command_work.specs.{Outcomes.{Outcome, refused, written}, Behaviours.{Work, AreRead, IsHeaded}, RecordsWork.{RecordsWork, if_suited}}}
use Rattle.{command_work.specs.RecordsWork.headed_work, tally_engine.specs.{declared.engine.Engine.Engine, Engine.{HasFed, header_of, refused_by, IsFor}}}

-- what the records after a header end with: the report, where none is refused
abbrev pub reported : PlanView → Header → List ℕ → Result Summary Fault → Outcome
reported plan header bytes (Ok summary) = written (report header summary (with_events (parts_of plan) (history (sorting plan) (reading_by plan header) (words_of bytes))))
reported plan header bytes (Err fault) = refused fault

-- the report at their end
abbrev pub reports : PlanView → Header → RecordsWork
reports plan header = record {
  text = λ bytes. [];
  ends = λ bytes. reported plan header bytes (streamed (reading_by plan header) bytes);
  refuses = λ bytes. record_refusal (reading_by plan header) (words_of bytes);
}

-- where the plan's parts suit the file
abbrev pub reports_by : PlanView → Header → RecordsWork
reports_by plan = if_suited plan (reports plan)

-- a plan of any parts will do
abbrev pub any_plan : PlanView → Option Fault
any_plan plan = None

-- the report of a plan over a whole file
abbrev pub reporting : PlanView → Work
reporting plan = headed_work (reports_by plan) (IsHeaded (λ header behind. (fits (mode_of header.record_type) plan ≡ Ok (tt {0})) × AreRead (reading_by plan header) behind))

-- The name and the parts of a blank ledger are those of its type, and it has some parts.
pub record IsLedger (name parts its_name its_parts : ℕ) : Type 0 where
  pub same_name : name ≡ its_name
  pub same_parts : parts ≡ its_parts
  pub some : 0 < parts

-- Memory may run out after a header: the plan has a table, and its parts suit the file.
abbrev pub MayWant : PlanView → Header → Type 0
MayWant plan header = (0 < length (parts_of plan)) × (fits (mode_of header.record_type) plan ≡ Ok (tt {0}))

-- An engine of the plan was given these bytes and refused none.
pub record CountsBy (plan : PlanView) (engine : Engine) (bytes : List ℕ) : Type 0 where
  pub is : IsFor engine plan (header_of engine)
  pub going : refused_by engine ≡ None
  pub fed : HasFed engine bytes
