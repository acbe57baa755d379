-- What `trace` ends with over the bytes of a file.
use Rattle.std.{specs.{Prelude.{ℕ, ◌≡◌, List, [], ◌∷◌, None, Some, Result, Ok, Err, ◌+◌, max, ◌++◌, length, refl}, declared.option.Option.Option}, proofs.Common.{append-nil, arith}}
use Rattle.tally_base.specs.{declared.{fault.Fault.{Fault, TheVariants.NoTrace}, header.{Header.Header, Mode.Mode}}, RecordTypes.mode_of, Settings.{PartSettings, TraceView, trace_view}}
use Rattle.{tally_base.specs.{Settings.PartSettings.TraceSettings, Tally.History}, ptu_definitions.specs.{declared.records.Summary.Summary, Words.words_of, Streams.{StreamSettings, unrefused_after}}}
use Rattle.{ptu_definitions.specs.{Streams.{record_refusal, streamed}, Kept.{Marked, floor_of}, Settled.not_marked}, plan_text.specs.{Plan.{PlanView, parts_of}, Fits.fits}}
use Rattle.{gate_plan.specs.{Shifting.{Sorting, sorting}, Histories.{history, settled_history, reading_by, with_groups}}, long_trace.specs.Texts.{open_text, whole_text}}
use Rattle.{long_trace.{specs.{declared.trace.LongTrace.LongTrace, LongTrace.{Holds, GivenMore, set_of}}, proofs.Steps.GivenMore-nil}, command_work.specs.Outcomes.{Outcome, written}}
use Rattle.{command_work.specs.{Behaviours.{Work, AreRead, IsHeaded}, RecordsWork.{RecordsWork, if_suited, headed_work, headed_so_far}}, bench_io.specs.Sinks.{SinkState, WroteShort, PassesOn}}
use Rattle.bench_io.proofs.Bytes.{PassesOn-held}

-- the first trace of some tables
abbrev pub first_trace : List PartSettings → Option TraceView
first_trace [] = None
first_trace (TraceSettings set ∷ parts) = Some set
first_trace (part ∷ parts) = first_trace parts

-- the trace of a plan that the command prints
abbrev pub trace_of : PlanView → Option TraceView
trace_of plan = first_trace (parts_of plan)

-- what such a plan lacks
abbrev pub unless_traced : Option TraceView → Option Fault
unless_traced None = Some NoTrace
unless_traced (Some set) = None

-- the fault of a plan without a trace
abbrev pub no_trace : PlanView → Option Fault
no_trace plan = unless_traced (trace_of plan)

-- the text of a trace before its end, and the whole text
abbrev pub open_by : Option TraceView → History → List ℕ
open_by None h = []
open_by (Some set) h = open_text set h

abbrev pub whole_by : Option TraceView → History → List ℕ
whole_by None h = []
whole_by (Some set) h = whole_text set h

-- the events that are settled by the words before the first that is refused
abbrev pub settled_before : Sorting → StreamSettings → List ℕ → History
settled_before by how words = settled_history by how (unrefused_after how [] words)

-- what has been printed of these words, where the next read fails
abbrev pub words_traced : Option TraceView → Sorting → StreamSettings → List ℕ → List ℕ
words_traced set by how words = open_by set (settled_before by how words)

-- by the answer of the records
abbrev pub traced : Option TraceView → Sorting → StreamSettings → List ℕ → Result Summary Fault → Outcome
traced set by how bytes (Ok summary) = written (whole_by set (history by how (words_of bytes)))
traced set by how bytes (Err fault) = record { text = words_traced set by how (words_of bytes); fault = Some fault }

-- what the bytes after a header end with
abbrev pub records_traced : Option TraceView → Sorting → StreamSettings → List ℕ → Outcome
records_traced set by how bytes = traced set by how bytes (streamed how bytes)

-- the lines of a trace of these settings, as they are read
abbrev pub traces_with : Option TraceView → Sorting → StreamSettings → RecordsWork
traces_with set by how = record {
  text = λ bytes. words_traced set by how (words_of bytes);
  ends = records_traced set by how;
  refuses = λ bytes. record_refusal how (words_of bytes);
}

abbrev pub traces : TraceView → Sorting → StreamSettings → RecordsWork
traces set = traces_with (Some set)

-- the same by a plan, where its parts suit the file
abbrev pub traces_by : Option TraceView → PlanView → Header → RecordsWork
traces_by set plan = if_suited plan (λ header. traces_with set (sorting plan) (reading_by plan header))

-- What has been printed of the bytes of a file, where the next read fails: nothing before the header is whole and suits the plan.
abbrev pub trace_so_far : PlanView → List ℕ → List ℕ
trace_so_far plan = headed_so_far (traces_by (trace_of plan) plan)

-- printing the trace of a plan over a whole file
abbrev pub tracing : PlanView → Work
tracing plan = headed_work (traces_by (trace_of plan) plan) (IsHeaded (λ header behind. (fits (mode_of header.record_type) plan ≡ Ok (tt {0})) × AreRead (reading_by plan header) behind))

-- The lines of a trace on their way to a sink.

-- The trace was given those of the events that aren't marked late, each with its groups, and the lines of the bins that they closed were put after what a block held, for a sink of which no write failed.
pub record Traced (start now : LongTrace) (by by' : Sorting) (mode mode' : Mode) (taken taken' floor floor' : ℕ) (old new : SinkState) (held held' : List ℕ) (l : Marked) : Type 0 where
  pub same_sorting : by' ≡ by
  pub same_mode : mode' ≡ mode
  pub counted : taken' ≡ taken + length l
  pub moved : floor' ≡ max floor (floor_of mode l)
  pub lines : List ℕ
  pub given : GivenMore start now (with_groups by (not_marked l)) lines
  pub text : PassesOn old new (held ++ lines) held'

-- They were cut short, and the block holds none.
pub record TracedShort (start : LongTrace) (by : Sorting) (old new : SinkState) (held held' : List ℕ) (l : Marked) : Type 0 where
  pub lines : List ℕ
  pub closed : (h : History) → Holds start h → open_text (trace_view (set_of start)) (h ++ with_groups by (not_marked l)) ≡ open_text (trace_view (set_of start)) h ++ lines
  pub text : WroteShort old new (held ++ lines)
  pub empty : held' ≡ []

pub traced_none : (trace : LongTrace) (by : Sorting) (mode : Mode) (taken floor : ℕ) (old : SinkState) (held : List ℕ) → Traced trace trace by by mode mode taken taken floor floor old old held held []
traced_none trace by mode taken floor old held = record {
  same_sorting = refl;
  same_mode = refl;
  counted = omega arith;
  moved = omega arith;
  lines = [];
  given = GivenMore-nil trace;
  text = rw (append-nil held) (PassesOn-held old held);
}
