-- What the trace of words writes that come after others.
use Rattle.std.specs.Prelude.{ℕ, ◌≡◌, ◌≤◌, List, ◌++◌, OnOk, true, None, Some, Result, Ok, Err}
use Rattle.{tally_base.specs.{declared.{fault.Fault.{Fault, TheVariants.WriteFault}, header.Mode.Mode}, Faults.fault_in, Settings.trace_view}, bench_io.specs.declared.sink.Sink.Ghosts}
use Rattle.{bench_io.specs.Texts.WritesText, ptu_definitions.specs.{declared.records.Summary.Summary, Words.words_of, Streams.{StreamSettings, streamed}}, gate_plan.specs.Shifting.Sorting}
use Rattle.{gate_plan.specs.Histories.history, record_stream.specs.{declared.stream.RecordStream.RecordStream, Standing.{how_of, given_by, greatest_of, refused_with, HasStreamed}, Pieces.TakesOn}}
use Rattle.{record_stream.specs.Pieces.StaysOpen, long_trace.specs.{declared.trace.LongTrace.LongTrace, LongTrace.{Holds, set_of, taken_of, floor_of, is_going}, Texts.open_text}}
use Rattle.{command_work.specs.RecordsWork.{WritesPiece, WritesEnd}, trace_work.specs.TraceOutcomes.{settled_before, words_traced, traces}}

-- The trace has written its first line and refused nothing, and is no further on than the stream.
pub record IsBehindStream (stream : RecordStream) (trace : LongTrace) : Type 0 where
  pub going : is_going trace ≡ true
  pub few : taken_of trace ≤ given_by stream
  pub before : floor_of trace ≤ greatest_of stream

-- The trace stands for what the words of these bytes give.
abbrev pub TracesBytes : Sorting → StreamSettings → LongTrace → List ℕ → Type 0
TracesBytes by how trace bytes = Holds trace (settled_before by how (words_of bytes))

-- The stream has refused nothing, in this mode, and the trace is no further on: so both can end.
pub record CanEnd (stream : RecordStream) (of_file : Mode) (trace : LongTrace) : Type 0 where
  pub mode : of_file ≡ (how_of stream).mode
  pub going : refused_with stream ≡ None
  pub behind : IsBehindStream stream trace

-- The stream was given these bytes and refused none, and the trace stands for what they give.
pub record HasTraced (by : Sorting) (stream : RecordStream) (trace : LongTrace) (bytes : List ℕ) : Type 0 where
  pub going : refused_with stream ≡ None
  pub behind : IsBehindStream stream trace
  pub streamed : HasStreamed stream bytes
  pub traced : TracesBytes by (how_of stream) trace bytes

-- What feeding a piece after these bytes wrote on an output, and that the trace then stands for them with the piece.
pub record TracedPiece {O : Type 0} (o : Ghosts O) (by : Sorting) (stream : RecordStream) (trace now : LongTrace) (bytes piece : List ℕ) (old new : O) (result : Result (Unit {0}) Fault) : Type 0 where
  pub writes : WritesPiece (traces (trace_view (set_of trace)) by (how_of stream)) bytes piece (o.state old) (o.state new) result
  pub stands : OnOk result (TracesBytes by (how_of stream) now (bytes ++ piece))

-- the same of a stream that has refused nothing, with a trace that stands for what came before
abbrev pub TracesPiece : {O : Type 0} → Ghosts O → Sorting → RecordStream → LongTrace → LongTrace → List ℕ → O → O → Result (Unit {0}) Fault → Type 0
TracesPiece o by stream trace now piece old new result =
    refused_with stream ≡ None → (bytes : List ℕ) → HasStreamed stream bytes → TracesBytes by (how_of stream) trace bytes → TracedPiece o by stream trace now bytes piece old new result

-- What feeding a piece leaves of the stream, of the trace and of an output.
pub record FeedsTrace {O : Type 0} (o : Ghosts O) (by : Sorting) (stream after : RecordStream) (trace now : LongTrace) (piece : List ℕ) (old new : O) (result : Result (Unit {0}) Fault) : Type 0 where
  pub fed : TakesOn stream after piece
  pub writes : TracesPiece o by stream trace now piece old new result
  pub going : OnOk result (StaysOpen stream after piece)
  pub behind : OnOk result (IsBehindStream after now)
  pub set : set_of now ≡ set_of trace

-- The text of these bytes before its end, by the answer of their records: the lines of all bins that the whole kept list closes, or, where a
-- record is refused, of those that the settled events close.
abbrev pub text_by : LongTrace → Sorting → StreamSettings → List ℕ → Result Summary Fault → List ℕ
text_by trace by how bytes (Ok summary) = open_text (trace_view (set_of trace)) (history by how (words_of bytes))
text_by trace by how bytes (Err fault) = words_traced (Some (trace_view (set_of trace))) by how (words_of bytes)

-- What giving the trace what a stream keeps back wrote, by the answer. Then it stands for the whole kept list.
pub record WritesLast {O : Type 0} (o : Ghosts O) (by : Sorting) (how : StreamSettings) (trace now : LongTrace) (old new : O) (bytes : List ℕ) (result : Result (Unit {0}) Fault) : Type 0 where
  pub writes : WritesText (words_traced (Some (trace_view (set_of trace))) by how (words_of bytes)) (text_by trace by how bytes (streamed how bytes))
      (fault_in (streamed how bytes)) (o.state old) (o.state new) result
  pub stands : OnOk result (Holds now (history by how (words_of bytes)))

-- the same of a stream and a trace that stand for the same bytes
abbrev pub EndsLines : {O : Type 0} → Ghosts O → Sorting → RecordStream → LongTrace → LongTrace → O → O → Result (Unit {0}) Fault → Type 0
EndsLines o by stream trace now old new result =
    (bytes : List ℕ) → HasStreamed stream bytes → TracesBytes by (how_of stream) trace bytes → WritesLast o by (how_of stream) trace now old new bytes result

-- What ending both wrote is the end of the trace's text.
abbrev pub EndsTrace : {O : Type 0} → Ghosts O → Sorting → RecordStream → LongTrace → O → O → Result (Unit {0}) Fault → Type 0
EndsTrace o by stream trace old new result =
    (bytes : List ℕ) → HasStreamed stream bytes → TracesBytes by (how_of stream) trace bytes
    → WritesEnd (traces (trace_view (set_of trace)) by (how_of stream)) bytes (o.state old) (o.state new) result

-- what ends a stream whose last lines are flushed
abbrev pub both_ended : {X Y : Type 0} → Result X Fault → Result (Unit {0}) Y → Result (Unit {0}) Fault
both_ended finished (Err failed) = Err WriteFault
both_ended (Err fault) (Ok done) = Err fault
both_ended (Ok summary) (Ok done) = Ok tt
