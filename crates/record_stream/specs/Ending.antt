-- What the end of a stream does.
use Rattle.std.specs.{Prelude.{ℕ, ◌≡◌, ◌+◌, ◌<◌, ◌≤◌, false, List, [], ◌++◌, length, Result, Ok, Err, ◌⊎◌}, List.All}
use Rattle.{tally_base.specs.{declared.{event.Event.Event, fault.Fault.{Fault, TheVariants.WriteFault}}, FaultCounts.Rose}, ptu_definitions.specs.{declared.records.Summary.Summary, Kept.Marked}}
use Rattle.{ptu_definitions.specs.{Settled.marked_as, Streams.{StreamSettings, last_in, streamed}, Words.{words_of, rest_of}}, record_stream.specs.{Keeping.CanWait, OneMore.with_marks}}
use Rattle.record_stream.specs.{Walking.{how_of, given_by, records_of, summary_in}, declared.{taker.EventTaker.Ghosts, walk.Walk.Walk}}

module _ {T : Type 0} (g : Ghosts T) where
  -- The taker got the first of the events that were kept back, and the rest can be given.
  pub record GaveFirst (walk : Walk) (start : T) (all : List Event) (now : Walk) (taker : T) (left : List Event) (last : ℕ) : Type 0 where
    pub front : List Event
    pub adds : all ≡ front ++ left
    pub follows : (s : T) (l : Marked) → g.got s start l → g.got s taker (l ++ marked_as false front)
    pub summary : summary_in now ≡ with_marks (summary_in walk) (marked_as false front)
    pub same_how : how_of now ≡ how_of walk
    pub room : given_by now + length left ≤ records_of now
    pub few : g.taken taker ≤ given_by now
    pub mode_is : g.mode taker ≡ (how_of now).mode
    pub fit : All (CanWait (how_of now).mode) left
    pub low : g.floor taker ≤ last
    pub kept : g.faults taker ≡ g.faults start
    pub same : g.same start taker

  -- It broke at one of these events.
  pub record BrokeFirst (old new : T) (all : Marked) : Type 0 where
    pub front : Marked
    pub back : Marked
    pub some : 0 < length front
    pub adds : all ≡ front ++ back
    pub broken : (start : T) (l : Marked) → g.got start old l → g.broke start new (l ++ front)
    pub rose : Rose (g.faults old) (g.faults new)

  -- The bytes have this summary, and the taker got what was kept back.
  pub record GaveRest (how : StreamSettings) (old new : T) (bytes : List ℕ) (summary : Summary) : Type 0 where
    pub streams : streamed how bytes ≡ Ok summary
    pub follows : (start : T) (l : Marked) → g.got start old l → g.got start new (l ++ last_in how (words_of bytes))
    pub kept : g.faults new ≡ g.faults old

  -- What the end of a stream of these bytes did, by its answer: a refusal leaves the taker as it was, and a write fails
  -- only where no byte is left over.
  abbrev pub Ended : StreamSettings → T → T → List ℕ → Result Summary Fault → Type 0
  Ended how old new bytes (Ok summary) = GaveRest how old new bytes summary
  Ended how old new bytes (Err fault) =
      ((streamed how bytes ≡ Err fault) × (new ≡ old)) ⊎ ((fault ≡ WriteFault) × BrokeFirst old new (last_in how (words_of bytes)) × (rest_of bytes ≡ []))
