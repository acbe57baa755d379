-- The events that a stream keeps back.
use Rattle.std.specs.{Prelude.{ℕ, ◌≡◌, ◌≢◌, ◌+◌, ◌≤◌, ◌==◌, true, false, List, [], length, map, None, Some, if◌then◌else◌}, declared.option.Option.Option, List.All}
use Rattle.tally_base.specs.{declared.{event.Event.Event, fault.Fault.{Fault, TheVariants.BackwardTime}, header.Mode.Mode}, Events.{is_ordered, stops_late}, RecordTypes.mode_of}
use Rattle.ptu_definitions.specs.{Kept.{Marked, floor_of, mark}, Settled.{is_late_by, ordered, settles, not_marked}, Streams.{StreamSettings, events_in}, Times.events}
use Rattle.{ptu_definitions.specs.declared.records.Summary.Summary, abs_time.specs.{Placing.{IsSmall, placed_by}, declared.clock.Clock.Clock}, settle.specs.Standing.{HasSettled, kept_back}}
use Rattle.{settle.specs.{Standing.{next_place, last_time, reach_of, was_popped}, declared.settle.Settle.Settle}, record_stream.specs.{Feeding.IsAt, declared.walk.Walk.Walk}}

-- an event in order that fits its mode
pub record CanWait (mode : Mode) (e : Event) : Type 0 where
  pub small : IsSmall mode e
  pub ordered : is_ordered mode e ≡ true

-- What is kept back after a walk: no more than its policy says, all of it counted, and nothing after its last record.
pub record IsKeeping (walk : Walk) (settle : Settle) : Type 0 where
  pub reach : reach_of settle ≡ walk.policy.settle
  pub unpopped : was_popped settle ≡ false
  pub fit : All (CanWait (mode_of walk.record_type)) (kept_back settle)
  pub behind : next_place settle ≤ placed_by walk.clock + 1
  pub room : walk.given + length (kept_back settle) ≤ walk.sums.records

-- These events came, those in order were pushed, and what is settled by now was delivered.
pub record Came (how : StreamSettings) (settle : Settle) (es : List Event) (l : Marked) : Type 0 where
  pub settled : HasSettled settle (ordered how.mode es) (not_marked l)
  pub greatest : last_time settle ≡ floor_of how.mode l

-- What is kept back where events are put in their places.
abbrev pub Comes : StreamSettings → Settle → List Event → Marked → Type 0
Comes how settle es l = how.policy.settle ≢ 0 → Came how settle es l

-- The same after words.
abbrev pub HasCome : StreamSettings → Settle → List ℕ → Type 0
HasCome how settle words = Came how settle (events (map how.meaning words)) (events_in how words)

abbrev pub Settles : StreamSettings → Settle → List ℕ → Type 0
Settles how settle words = how.policy.settle ≢ 0 → HasCome how settle words

-- what an event adds to what is delivered, after these events
abbrev pub tells : ℕ → Mode → List Event → Event → Marked
tells k mode before e = if k == 0 then mark mode before e else if is_ordered mode e then settles k (ordered mode before) e else []

-- why it is refused, where `greatest` is the greatest time of these events
abbrev pub refused_for : StreamSettings → List Event → Event → ℕ → Option Fault
refused_for how before e greatest =
    if stops_late how.policy.order then (if is_late_by how.policy.settle how.mode before e then Some (BackwardTime e.place e.time greatest) else None) else None

-- Where a stream stands that took these words and refused none, with what it keeps back.
pub record StandsAt (how : StreamSettings) (clock : Clock) (sum : Summary) (count : ℕ) (settle : Settle) (words : List ℕ) : Type 0 where
  pub at : IsAt how clock sum count words
  pub settles : Settles how settle words
