-- How far a walk is.
use Rattle.std.specs.Prelude.{ℕ, Bool, true, not, IsTrue, ◌&&◌, ◌≡◌, ◌+◌, ◌^◌, ◌<◌, ◌≤◌, List, [], ◌∷◌, ◌++◌, length, map, count_by}
use Rattle.{tally_base.specs.{declared.event.Event.Event, Events.{is_ordered, stops_reserved}, Limits.wrap_limit}, ptu_definitions.specs.{declared.records.{Raw.Raw, Summary.Summary}, Kept.Marked}}
use Rattle.{ptu_definitions.specs.{Kinds.is_reserved, Streams.{StreamSettings, reading}, Words.numbers}, abs_time.specs.{declared.clock.Clock.Clock, Placing.{base_of, greatest_by, placed_by}}}
use Rattle.{abs_time.specs.{Placing.{IsSmall, LeadsOn}, Floors.moved_floor}, record_stream.specs.{Blocks.{chosen as chosen_of, Adds, IsInLine, RisesWithin}, Feeding.{IsAt, Follows}}}
use Rattle.record_stream.specs.{declared.{taker.EventTaker.Ghosts, walk.Walk.Walk}, OneMore.{with_event, summed}}

abbrev pub how_of : Walk → StreamSettings
how_of walk = reading walk.record_type walk.policy

-- how many events it has given
abbrev pub given_by : Walk → ℕ
given_by walk = walk.given

-- the greatest time of the ordered events that it gave and that weren't late
abbrev pub greatest_of : Walk → ℕ
greatest_of walk = greatest_by walk.clock

abbrev pub summary_in : Walk → Summary
summary_in walk = summed walk.sums

abbrev pub records_of : Walk → ℕ
records_of walk = walk.sums.records

abbrev pub clock_in : Walk → Clock
clock_in walk = walk.clock

-- One event more was given and is in the summary.
pub record Notes (old new : Walk) (e : Event) (late : Bool) : Type 0 where
  pub given : given_by new ≡ given_by old + 1
  pub summary : summary_in new ≡ with_event (summary_in old) e late

-- It reads as before, counted and placed as many records, and gave one event more at most.
pub record KeepsPlace (old new : Walk) : Type 0 where
  pub same_how : how_of new ≡ how_of old
  pub same_records : records_of new ≡ records_of old
  pub same_clock : clock_in new ≡ clock_in old
  pub few_given : given_by new ≤ given_by old + 1

-- It took these words and refused none.
abbrev pub IsBehind : Walk → List ℕ → Type 0
IsBehind walk words = IsAt (how_of walk) walk.clock (summed walk.sums) walk.given words

-- What some words add after any that it took: these events, up to this sum of wraps and this greatest time.
abbrev pub AddsBehind : Walk → List (List ℕ) → ℕ → ℕ → List Event → Type 0
AddsBehind walk words sum greatest es =
    (before : List ℕ) → IsBehind walk before → Adds (how_of walk) (placed_by (clock_in walk) + length words) sum greatest before (before ++ numbers words) es

-- They lead the clock to this sum of wraps and this greatest time.
abbrev pub LeadsBehind : Walk → List (List ℕ) → ℕ → ℕ → Type 0
LeadsBehind walk words sum greatest = LeadsOn (clock_in walk) (placed_by (clock_in walk) + length words) sum greatest (map (how_of walk).meaning (numbers words))

-- These are the events of some words that come next, or those in order alone. None of them is late, up to this sum of
-- wraps and this greatest time.
pub record Gathers (walk : Walk) (words : List (List ℕ)) (only_ordered : Bool) (sum greatest : ℕ) (es : List Event) : Type 0 where
  pub limit : sum ≤ wrap_limit
  pub came : List Event
  pub chosen : es ≡ chosen_of only_ordered (how_of walk).mode came
  pub places : RisesWithin (placed_by (clock_in walk)) (placed_by (clock_in walk) + length words) came
  pub in_line : IsInLine (how_of walk).mode (greatest_of walk) greatest came
  pub leads : LeadsBehind walk words sum greatest
  pub adds : AddsBehind walk words sum greatest came

-- None of these words can be refused as one too many, for its wraps or as reserved.
pub record LetsPass (walk : Walk) (meaning : ℕ → Raw) (words : List (List ℕ)) : Type 0 where
  pub room : records_of walk + length words ≤ (how_of walk).policy.records
  pub base : base_of (clock_in walk) + 2 ^ 56 ≤ wrap_limit
  pub reserved : stops_reserved (how_of walk).policy.reserved ≡ true → count_by is_reserved (map meaning (numbers words)) ≡ 0

module _ {T : Type 0} (g : Ghosts T) where
  -- The walk took so many words more and refused none, and the taker is no further on than it and this time.
  pub record WalksOn (old new : Walk) (time : ℕ) (taker : T) (more : ℕ) : Type 0 where
    pub follows : Follows g (how_of old).mode (given_by new) time taker
    pub counted : records_of new ≡ records_of old + more

  -- The event, whose record is counted, can be given after those that the taker got.
  pub record CanGive (walk : Walk) (e : Event) (late : Bool) (taker : T) : Type 0 where
    pub mode_is : g.mode taker ≡ (how_of walk).mode
    pub few : g.taken taker ≤ given_by walk
    pub in_order : IsTrue (is_ordered (how_of walk).mode e && not late) → g.floor taker ≤ e.time
    pub room : given_by walk < records_of walk
    pub small : IsSmall (how_of walk).mode e

  -- The taker got it after whatever it got before, and the walk has noted it.
  pub record Gave (old new : Walk) (taker now : T) (e : Event) (late : Bool) : Type 0 where
    pub got : (start : T) (l : Marked) → g.got start taker l → g.got start now (l ++ (e, late) ∷ [])
    pub follows : (greatest : ℕ) → moved_floor (how_of old).mode (g.floor taker) e late ≤ greatest → Follows g (how_of old).mode (given_by new) greatest now
    pub noted : Notes old new e late

  -- Whatever a walk answers, it reads as before, the taker keeps what a call leaves as it is, and the count of faults doesn't fall.
  pub record Stays (old new : Walk) (taker now : T) : Type 0 where
    pub same_how : how_of new ≡ how_of old
    pub later : g.faults taker ≤ g.faults now
    pub same : g.same taker now
