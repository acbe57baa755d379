-- How far a walk is with the events that it keeps back.
use Rattle.std.specs.{Prelude.{ℕ, ◌≡◌, ◌+◌, ◌<◌, ◌≤◌, ◌==◌, Bool, true, false, Result, Ok, Err, OnOk, List, [], ◌∷◌, ◌++◌, length, None, Some, IfSome, ◌⊎◌, if◌then◌else◌}, List.All}
use Rattle.tally_base.specs.{declared.{event.Event.Event, fault.Fault.{Fault, TheVariants.WriteFault}, header.Mode.Mode}, Events.is_ordered, FaultCounts.Rose}
use Rattle.{ptu_definitions.specs.{declared.records.Raw.Raw, Kept.{Marked, is_late}, Settled.is_late_by, Streams.StreamSettings}, abs_time.specs.Placing.{placed_by, IsSmall}}
use Rattle.{settle.specs.{Settling.told, Standing.{kept_back, last_time, next_place, reach_of, was_popped}, declared.settle.{Settle.Settle, Settled.Settled}}, record_stream.specs.Feeding.Follows}
use Rattle.record_stream.specs.{Feeding.Delivers, Keeping.{CanWait, Comes, HasCome, IsKeeping, StandsAt, tells, refused_for}, OneMore.{summed, with_marks}, Walking.{how_of, given_by, greatest_of}}
use Rattle.record_stream.specs.{Walking.{records_of, clock_in, summary_in, IsBehind, Stays, WalksOn}, declared.{taker.EventTaker.Ghosts, walk.Walk.Walk}}

-- the greatest time of the events in order that were given and not late
abbrev pub floor_in : Walk → Settle → ℕ
floor_in walk settle = if (how_of walk).policy.settle == 0 then greatest_of walk else last_time settle

-- It took these words and refused none, and the events in order of these came.
abbrev pub HasTaken : Walk → Settle → List ℕ → Type 0
HasTaken walk settle words = StandsAt (how_of walk) walk.clock (summed walk.sums) walk.given settle words

-- The same where events are put in their places.
pub record IsSettledBehind (walk : Walk) (settle : Settle) (words : List ℕ) : Type 0 where
  pub behind : IsBehind walk words
  pub come : HasCome (how_of walk) settle words

-- The next event: after those that were pushed, and of a record that is counted and placed, late in file order or not.
pub record ComesUp (walk : Walk) (settle : Settle) (e : Event) (late : Bool) : Type 0 where
  pub next : next_place settle ≤ e.place
  pub placed : e.place ≤ placed_by (clock_in walk)
  pub room : given_by walk + length (kept_back settle) < records_of walk
  pub small : IsSmall (how_of walk).mode e
  pub top : late ≡ false → is_ordered (how_of walk).mode e ≡ true → greatest_of walk ≡ e.time

-- An event can be given after this time, and up to that one.
pub record GoesBetween (mode : Mode) (low high : ℕ) (e : Event) : Type 0 where
  pub small : IsSmall mode e
  pub in_order : is_ordered mode e ≡ true → (low ≤ e.time) × (e.time ≤ high)

-- The answer says whether the event is late after these, and what it adds.
pub record Judges (how : StreamSettings) (settle : Settle) (before : List Event) (l : Marked) (e : Event) (answer : Settled) : Type 0 where
  pub late : answer.late ≡ is_late_by how.policy.settle how.mode before e
  pub tells : tells how.policy.settle how.mode before e ≡ told e answer.late answer.emitted
  pub come : Comes how settle (before ++ e ∷ []) (l ++ told e answer.late answer.emitted)

-- What becomes of an event that comes up: it is given now, or late, or kept back with the others.
pub record Becomes (walk : Walk) (from settle : Settle) (e : Event) (late : Bool) (answer : Settled) : Type 0 where
  pub judges : (before : List Event) (l : Marked) → is_late (how_of walk).mode before e ≡ late → Comes (how_of walk) from before l → Judges (how_of walk) settle before l e answer
  pub goes : IfSome answer.emitted (λ x. GoesBetween (how_of walk).mode (floor_in walk from) (floor_in walk settle) x)
  pub rises : floor_in walk from ≤ floor_in walk settle
  pub fit : All (CanWait (how_of walk).mode) (kept_back settle)
  pub count : length (told e answer.late answer.emitted) + length (kept_back settle) ≤ length (kept_back from) + 1
  pub reach : reach_of settle ≡ reach_of from
  pub unpopped : was_popped settle ≡ was_popped from
  pub next : next_place settle ≤ e.place + 1

module _ {T : Type 0} (g : Ghosts T) where
  -- The taker is of the mode of the walk, and no further on.
  abbrev pub IsFollowedBy : Walk → Settle → T → Type 0
  IsFollowedBy walk settle taker = Follows g (how_of walk).mode (given_by walk) (floor_in walk settle) taker

  -- What is kept back and the taker are in step with the walk, whose events come in an order that is for its policy.
  pub record IsReady (fits : ℕ → Type 0) (walk : Walk) (settle : Settle) (taker : T) : Type 0 where
    pub is_for : fits (how_of walk).policy.settle
    pub keeps : IsKeeping walk settle
    pub follows : IsFollowedBy walk settle taker

  -- Whatever is answered, how the walk reads and how the taker is stay, and what is kept back is in step with the walk.
  pub record StaysKept (old new : Walk) (settle : Settle) (taker now : T) : Type 0 where
    pub stays : Stays g old new taker now
    pub keeps : IsKeeping new settle

  -- They can take words, which are read by this meaning.
  pub record CanWalk (fits : ℕ → Type 0) (read : ℕ → Raw) (walk : Walk) (settle : Settle) (taker : T) : Type 0 where
    pub meaning : read ≡ (how_of walk).meaning
    pub ready : IsReady fits walk settle taker

  -- What taking words did, by the answer.
  pub record Walks {X : Type 0} (old new : Walk) (from settle : Settle) (taker now : T) (words : List ℕ) (answer : Result X Fault) : Type 0 where
    pub delivers : Delivers g (how_of old) (HasTaken old from) (HasTaken new settle) taker now words answer
    pub goes_on : OnOk answer (WalksOn g old new (floor_in new settle) now (length words))
    pub stays : StaysKept old new settle taker now

  -- After these events, with which this was delivered, one more came, and what it adds was given.
  pub record Told (how : StreamSettings) (old new : Walk) (settle : Settle) (taker now : T) (before : List Event) (l : Marked) (e : Event) (latest : ℕ) : Type 0 where
    pub unrefused : refused_for how before e latest ≡ None
    pub come : Comes how settle (before ++ e ∷ []) (l ++ tells how.policy.settle how.mode before e)
    pub got : (start : T) (m : Marked) → g.got start taker m → g.got start now (m ++ tells how.policy.settle how.mode before e)
    pub summary : summary_in new ≡ with_marks (summary_in old) (tells how.policy.settle how.mode before e)
    pub counted : given_by new ≡ given_by old + length (tells how.policy.settle how.mode before e)
    pub kept : g.faults now ≡ g.faults taker

  -- It broke the taker.
  pub record BrokeAt (how : StreamSettings) (taker now : T) (before : List Event) (e : Event) (latest : ℕ) : Type 0 where
    pub unrefused : refused_for how before e latest ≡ None
    pub some : 0 < length (tells how.policy.settle how.mode before e)
    pub broken : (start : T) (l : Marked) → g.got start taker l → g.broke start now (l ++ tells how.policy.settle how.mode before e)
    pub rose : Rose (g.faults taker) (g.faults now)

  -- It is refused, or it broke the taker.
  abbrev pub Untold : StreamSettings → T → T → List Event → Event → ℕ → Fault → Type 0
  Untold how taker now before e latest fault =
      ((refused_for how before e latest ≡ Some fault) × (now ≡ taker)) ⊎ ((fault ≡ WriteFault) × BrokeAt how taker now before e latest)

  -- What the event did, by the answer.
  abbrev pub Tells : {X : Type 0} → Walk → Walk → Settle → T → T → List Event → Marked → Event → ℕ → Result X Fault → Type 0
  Tells old new settle taker now before l e latest (Ok x) = Told (how_of old) old new settle taker now before l e latest
  Tells old new settle taker now before l e latest (Err fault) = Untold (how_of old) taker now before e latest fault

  -- The same after any events, of which it is late in file order or not.
  abbrev pub TellsAfterAny : {X : Type 0} → Walk → Walk → Settle → Settle → T → T → Event → ℕ → Bool → Result X Fault → Type 0
  TellsAfterAny old new from settle taker now e latest late answer =
      (before : List Event) (l : Marked) → is_late (how_of old).mode before e ≡ late → Comes (how_of old) from before l → Tells old new settle taker now before l e latest answer
