-- What feeding a piece to a stream of records leaves.
use Rattle.std.specs.Prelude.{ℕ, ◌≡◌, ◌≢◌, ◌+◌, ◌*◌, ◌≤◌, List, [], ◌++◌, length, None, Some, Result, Err, OnOk, IfErr}
use Rattle.{tally_base.specs.{declared.{header.Mode.Mode, fault.Fault.{Fault, TheVariants.WriteFault}}, Faults.fault_in}, ptu_definitions.specs.{Words.{record_limit, words_of}, Headers.Shows}}
use Rattle.{ptu_definitions.specs.Streams.{record_refusal, streamed}, record_stream.specs.{declared.stream.RecordStream.RecordStream, Standing.{how_of, given_by, greatest_of, refused_with, bytes_in}}}
use Rattle.record_stream.specs.Standing.{kept_back_by, HasStreamed}

-- A stream was given a piece, whatever it answered: it is read as before, and stands for the bytes with the piece after them. It never takes more than the greatest number of records and a begun one.
pub record TakesOn (old new : RecordStream) (piece : List ℕ) : Type 0 where
  pub same_how : how_of new ≡ how_of old
  pub taken : (bytes : List ℕ) → HasStreamed old bytes → HasStreamed new (bytes ++ piece)
  pub limit : bytes_in new ≤ 4 * record_limit + 3

-- What a stream answers to a piece whose events nobody is given.
pub record Passes (old new : RecordStream) (piece : List ℕ) (result : Result (Unit {0}) Fault) : Type 0 where
  pub takes : TakesOn old new piece
  pub answer : refused_with old ≡ None → (bytes : List ℕ) → HasStreamed old bytes
      → fault_in result ≡ record_refusal (how_of old) (words_of (bytes ++ piece))
  pub kept : (fault : Fault) → refused_with old ≡ Some fault → (result ≡ Err fault) × (new ≡ old)
  pub refused : refused_with new ≡ fault_in result
  pub counted : OnOk result (bytes_in new ≡ bytes_in old + length piece)
  pub few : length (kept_back_by new) ≤ (how_of new).policy.settle
  pub shown : (bytes : List ℕ) → HasStreamed old bytes
      → IfErr result (λ fault. fault ≢ WriteFault → Shows (streamed (how_of old)) (bytes ++ piece) (Err fault))

-- It refused nothing, and took the whole piece.
pub record StaysOpen (old new : RecordStream) (piece : List ℕ) : Type 0 where
  pub going : refused_with new ≡ None
  pub counted : bytes_in new ≡ bytes_in old + length piece

-- What takes events is as far as the stream, in its mode, and holds no text yet: so it begins with a piece, or with the end.
pub record Begins (stream : RecordStream) (mode : Mode) (taken floor : ℕ) (held : List ℕ) : Type 0 where
  pub same_mode : mode ≡ (how_of stream).mode
  pub as_many : taken ≡ given_by stream
  pub as_late : floor ≡ greatest_of stream
  pub empty : held ≡ []
