-- What a taker is given by words that come after others.
use Rattle.std.specs.Prelude.{ℕ, ◌≡◌, ◌+◌, ◌<◌, ◌≤◌, List, [], ◌++◌, length, map, None, Some, Result, Ok, Err, OnOk, ◌⊎◌}
use Rattle.ptu_definitions.specs.{declared.records.Summary.Summary, Kept.Marked, Words.words_of, Streams.{StreamSettings, refusals, record_refusal, given, events_in}}
use Rattle.tally_base.specs.{declared.{fault.Fault.{Fault, TheVariants.WriteFault}, header.Mode.Mode, event.Event.Event}, FaultCounts.{FailsOnce, Rose}, Limits.record_limit, Tally.InOrder}
use Rattle.{abs_time.specs.{declared.clock.Clock.Clock, Placing.HasPlaced, Floors.orders_markers}, record_stream.specs.{Blocks.{on_time, AllFit}, OneMore.so_far, declared.taker.EventTaker.Ghosts}}

-- Where a stream stands that took these words and refused none.
pub record IsAt (how : StreamSettings) (clock : Clock) (sum : Summary) (count : ℕ) (words : List ℕ) : Type 0 where
  pub clear : refusals how words ≡ []
  pub placed : HasPlaced clock (map how.meaning words)
  pub summary : sum ≡ so_far how words
  pub counted : count ≡ length (events_in how words)

module _ {T : Type 0} (g : Ghosts T) where
  -- The taker is of this mode, and no further on than the stream.
  pub record Follows (mode : Mode) (count greatest : ℕ) (taker : T) : Type 0 where
    pub mode_is : g.mode taker ≡ mode
    pub few : g.taken taker ≤ count
    pub before : g.floor taker ≤ greatest

  -- The taker, of this mode, can be given the events: they are not too many, and come in order.
  pub record CanTake (mode : Mode) (taker : T) (es : List Event) : Type 0 where
    pub mode_is : g.mode taker ≡ mode
    pub room : g.taken taker + length es ≤ record_limit
    pub fit : AllFit mode es
    pub in_order : InOrder (orders_markers mode) (g.floor taker) es

  -- Whatever a taker answers, it keeps what a call leaves as it is, and counts one fault more where it fails.
  pub record WasCalled {X E : Type 0} (old new : T) (answer : Result X E) : Type 0 where
    pub cause : FailsOnce (g.faults old) (g.faults new) answer
    pub same : g.same old new

  -- It was given them.
  pub record WasGiven (old new : T) (es : List Event) : Type 0 where
    pub follows : (start : T) (l : Marked) → g.got start old l → g.got start new (l ++ on_time es)
    pub same_mode : g.mode new ≡ g.mode old

  -- It got what the words call for that came after others.
  pub record GaveOn (how : StreamSettings) (old new : T) (words now : List ℕ) : Type 0 where
    pub more : Marked
    pub adds : given how now ≡ given how words ++ more
    pub follows : (start : T) (l : Marked) → g.got start old l → g.got start new (l ++ more)
    pub kept : g.faults new ≡ g.faults old

  -- It broke at one of these.
  pub record BrokeOn (how : StreamSettings) (old new : T) (words now : List ℕ) : Type 0 where
    pub front : Marked
    pub back : Marked
    pub some : 0 < length front
    pub adds : given how now ≡ given how words ++ (front ++ back)
    pub broken : (start : T) (l : Marked) → g.got start old l → g.broke start new (l ++ front)
    pub rose : Rose (g.faults old) (g.faults new)

  -- What feeding words did that came after others, by its answer.
  abbrev pub Fed : {X : Type 0} → StreamSettings → T → T → List ℕ → List ℕ → Result X Fault → Type 0
  Fed how old new words now (Ok x) = (record_refusal how now ≡ None) × GaveOn how old new words now
  Fed how old new words now (Err fault) =
      ((record_refusal how now ≡ Some fault) × GaveOn how old new words now) ⊎ ((fault ≡ WriteFault) × BrokeOn how old new words now)

  -- What taking more words did after any where it stood, by its answer.
  pub record Delivers {X : Type 0} (how : StreamSettings) (stood stands : List ℕ → Type 0) (old new : T) (more : List ℕ) (answer : Result X Fault) : Type 0 where
    pub at : (before : List ℕ) → stood before → OnOk answer (stands (before ++ more))
    pub fed : (before : List ℕ) → stood before → Fed how old new before (before ++ more) answer

  -- The same of the words of bytes after which a piece came.
  abbrev pub FedPiece : {X : Type 0} → StreamSettings → T → T → List ℕ → List ℕ → Result X Fault → Type 0
  FedPiece how old new bytes piece answer = Fed how old new (words_of bytes) (words_of (bytes ++ piece)) answer
