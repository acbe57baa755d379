-- What a stream stands for.
use Rattle.std.specs.{Prelude.{ℕ, ◌≡◌, ◌≢◌, ◌+◌, ◌*◌, ◌≤◌, ◌==◌, List, [], ◌++◌, length, None, Some, Result, OnOk, if◌then◌else◌}, declared.option.Option.Option}
use Rattle.ptu_definitions.specs.{declared.records.{Raw.Raw, Summary.Summary}, Streams.{StreamSettings, reading, record_refusal, given}, Kept.Marked, Words.{words_of, rest_of}}
use Rattle.{tally_base.specs.declared.{fault.Fault.{Fault, TheVariants.WriteFault}, event.Event.Event}, record_layout.specs.Counting.begun_in, abs_time.specs.declared.clock.Clock.Clock}
use Rattle.{abs_time.specs.Placing.greatest_by, settle.specs.{Standing.{kept_back, last_time}, declared.settle.Settle.Settle}, record_stream.specs.{Feeding.{Follows, FedPiece}, Keeping.StandsAt}}
use Rattle.record_stream.specs.{declared.{taker.EventTaker.Ghosts, stream.RecordStream.RecordStream}, OneMore.summed}

abbrev pub how_of : RecordStream → StreamSettings
how_of stream = reading stream.walk.record_type stream.walk.policy

-- what is given of these bytes, as it reads
abbrev pub given_in : RecordStream → List ℕ → Marked
given_in stream bytes = given (how_of stream) (words_of bytes)

-- how many events it has given
abbrev pub given_by : RecordStream → ℕ
given_by stream = stream.walk.given

-- the greatest time of the ordered events that it gave and that weren't late
abbrev pub greatest_of : RecordStream → ℕ
greatest_of stream = if stream.walk.policy.settle == 0 then greatest_by stream.walk.clock else last_time stream.settle

abbrev pub refused_with : RecordStream → Option Fault
refused_with stream = stream.refused

abbrev pub carried_by : RecordStream → List ℕ
carried_by stream = begun_in stream.carried

-- the events that it keeps back, in order of time and then of place
abbrev pub kept_back_by : RecordStream → List Event
kept_back_by stream = kept_back stream.settle

abbrev pub summary_in : RecordStream → Summary
summary_in stream = summed stream.walk.sums

abbrev pub records_of : RecordStream → ℕ
records_of stream = stream.walk.sums.records

-- how many bytes it took, as long as it refused none
abbrev pub bytes_in : RecordStream → ℕ
bytes_in stream = 4 * stream.walk.sums.records + length (begun_in stream.carried)

abbrev pub clock_in : RecordStream → Clock
clock_in stream = stream.walk.clock

-- It took these words and refused none.
abbrev pub IsBehind : RecordStream → List ℕ → Type 0
IsBehind stream words = StandsAt (how_of stream) stream.walk.clock (summed stream.walk.sums) stream.walk.given stream.settle words

-- It took these bytes and refused none.
abbrev pub CarriesOn : RecordStream → List ℕ → Type 0
CarriesOn stream bytes = (begun_in stream.carried ≡ rest_of bytes) × IsBehind stream (words_of bytes)

-- After a refusal nothing more is taken: the bytes are any that begin with those that were refused.
abbrev pub Stands : StreamSettings → Clock → Summary → ℕ → Settle → List ℕ → Option Fault → List ℕ → Type 0
Stands how clock sum count settle carried None bytes = (carried ≡ rest_of bytes) × StandsAt how clock sum count settle (words_of bytes)
Stands how clock sum count settle carried (Some fault) bytes = fault ≢ WriteFault → record_refusal how (words_of bytes) ≡ Some fault

-- The stream was given these bytes.
abbrev pub HasStreamed : RecordStream → List ℕ → Type 0
HasStreamed stream bytes = Stands (how_of stream) stream.walk.clock (summed stream.walk.sums) stream.walk.given stream.settle (begun_in stream.carried) stream.refused bytes

-- It has given no event, and keeps none back.
pub record HasGivenNone (stream : RecordStream) : Type 0 where
  pub given : given_by stream ≡ 0
  pub greatest : greatest_of stream ≡ 0
  pub none : kept_back_by stream ≡ []

module _ {T : Type 0} (g : Ghosts T) where
  -- The taker is of the mode of the stream, and no further on.
  abbrev pub IsFollowed : RecordStream → T → Type 0
  IsFollowed stream taker = Follows g (how_of stream).mode (given_by stream) (greatest_of stream) taker

  -- The stream took so many bytes more and refused none, and the taker is no further on.
  pub record StreamsOn (old new : RecordStream) (taker : T) (more : ℕ) : Type 0 where
    pub follows : Follows g (how_of old).mode (given_by new) (greatest_of new) taker
    pub counted : bytes_in new ≡ bytes_in old + more

  -- Whatever the stream answers, it reads as before and was refused what it was, the taker keeps what a call leaves as it is, and the count of faults doesn't fall.
  pub record Stays (old new : RecordStream) (taker now : T) : Type 0 where
    pub same_how : how_of new ≡ how_of old
    pub same_refused : refused_with new ≡ refused_with old
    pub later : g.faults taker ≤ g.faults now
    pub same : g.same taker now

  -- The stream reads words by this meaning, and the taker is no further on.
  pub record CanRead (read : ℕ → Raw) (stream : RecordStream) (taker : T) : Type 0 where
    pub meaning : read ≡ (how_of stream).meaning
    pub follows : IsFollowed stream taker

  -- What a piece did, by the answer.
  pub record Feeds {X : Type 0} (old new : RecordStream) (taker now : T) (piece : List ℕ) (answer : Result X Fault) : Type 0 where
    pub at : (bytes : List ℕ) → CarriesOn old bytes → OnOk answer (CarriesOn new (bytes ++ piece))
    pub fed : (bytes : List ℕ) → CarriesOn old bytes → FedPiece g (how_of old) taker now bytes piece answer
    pub goes_on : OnOk answer (StreamsOn old new now (length piece))
    pub stays : Stays old new taker now
