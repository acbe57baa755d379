-- The lines of events on their way to a sink.
use Rattle.std.{specs.Prelude.{ℕ, ◌≡◌, ◌+◌, max, List, [], ◌++◌, length, refl, None, Result}, proofs.Common.{append-nil, arith}}
use Rattle.{tally_base.specs.declared.{header.Mode.Mode, fault.Fault.Fault}, bench_io.{specs.{declared.sink.Sink.Ghosts, Sinks.{SinkState, WroteShort, PassesOn}}, proofs.Bytes.PassesOn-held}}
use Rattle.{ptu_definitions.specs.Kept.{Marked, floor_of}, list_out.specs.Lines.events_text, command_work.specs.RecordsWork.WritesPiece, record_stream.specs.declared.stream.RecordStream.RecordStream}
use Rattle.{record_stream.specs.Standing.{how_of, refused_with, HasStreamed}, file_work.specs.FileOutcomes.lists}

-- Nothing was listed yet: no event was taken, and the block is empty.
pub record ListsNone (taken floor : ℕ) (held : List ℕ) : Type 0 where
  pub none_taken : taken ≡ 0
  pub none_before : floor ≡ 0
  pub empty : held ≡ []

-- The lines of these events were put after what a block held, for the same sink, of which no write failed.
pub record Listed (name name' : ℕ) (mode mode' : Mode) (taken taken' floor floor' : ℕ) (old new : SinkState) (held held' : List ℕ) (l : Marked) : Type 0 where
  pub same_sink : name' ≡ name
  pub same_mode : mode' ≡ mode
  pub counted : taken' ≡ taken + length l
  pub moved : floor' ≡ max floor (floor_of mode l)
  pub text : PassesOn old new (held ++ events_text l) held'

-- They were cut short, and the block holds none.
pub record ListedShort (old new : SinkState) (held held' : List ℕ) (l : Marked) : Type 0 where
  pub text : WroteShort old new (held ++ events_text l)
  pub empty : held' ≡ []

pub listed_none : (name : ℕ) (mode : Mode) (taken floor : ℕ) (old : SinkState) (held : List ℕ) → Listed name name mode mode taken taken floor floor old old held held []
listed_none name mode taken floor old held = record { same_sink = refl; same_mode = refl; counted = omega arith; moved = omega arith; text = rw (append-nil held) (PassesOn-held old held) }

-- The stream is read in this mode, keeps no event back, and has refused nothing.
pub record IsOpenIn (mode : Mode) (stream : RecordStream) : Type 0 where
  pub same_mode : mode ≡ (how_of stream).mode
  pub unsettled : (how_of stream).policy.settle ≡ 0
  pub going : refused_with stream ≡ None

-- The stream was given these bytes and refused none.
pub record HasListed (stream : RecordStream) (bytes : List ℕ) : Type 0 where
  pub going : refused_with stream ≡ None
  pub streamed : HasStreamed stream bytes

-- what feeding a piece to a stream that has refused nothing wrote on an output
abbrev pub ListsPiece : {O : Type 0} → Ghosts O → RecordStream → List ℕ → O → O → Result (Unit {0}) Fault → Type 0
ListsPiece o stream piece old new result =
    refused_with stream ≡ None → (bytes : List ℕ) → HasStreamed stream bytes
    → WritesPiece (lists (how_of stream)) bytes piece (o.state old) (o.state new) result
