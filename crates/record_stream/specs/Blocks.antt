-- What words add of which none is refused and no event is late.
use Rattle.std.specs.Prelude.{ℕ, ◌≡◌, ◌<◌, ◌≤◌, IsTrue, true, false, Bool, List, [], ◌∷◌, ◌++◌, All, length, map, if◌then◌else◌}
use Rattle.tally_base.specs.{declared.{block.Block.Block, event.Event.Event, header.Mode.Mode}, Columns.{sorted, gathered}, Events.is_ordered, Tally.{floor_after, InOrder}}
use Rattle.ptu_definitions.specs.{Kept.{Marked, floor_of}, Layouts.KindFits, Settled.{ordered, not_marked}, Streams.{StreamSettings, refusals, events_in}, Times.events}
use Rattle.{abs_time.specs.{Placing.IsClock, Floors.orders_markers}, settle.specs.Passing.place_after}

-- the events, none of them late
abbrev pub on_time : List Event → Marked
on_time es = map (λ e. (e, false)) es

abbrev pub AllFit : Mode → List Event → Type 0
AllFit mode es = All (λ e. KindFits mode e.kind) es

-- Both lists have the same events on time, and as many late ones.
pub record AreAlike (l m : Marked) : Type 0 where
  pub count : length l ≡ length m
  pub on_time : not_marked l ≡ not_marked m
  pub floor : (mode : Mode) → floor_of mode l ≡ floor_of mode m

-- The taker tells such lists not apart, and breaks at none: a late event may be given before events on time that came before it.
pub record LetsLatePass {T : Type 0} (got broke : T → T → Marked → Type 0) : Type 0 where
  pub passes : (start t : T) (l m : Marked) → AreAlike l m → got start t l → got start t m
  pub unbroken : (start t : T) (l : Marked) → broke start t l → ⊥

-- The taker broke at one of these events.
pub record BrokeAmong {T : Type 0} (got broke : T → T → Marked → Type 0) (old new : T) (es : List Event) : Type 0 where
  pub front : List Event
  pub back : List Event
  pub some : 0 < length front
  pub are : es ≡ front ++ back
  pub broken : (start : T) (l : Marked) → got start old l → broke start new (l ++ on_time front)

-- These events were put after those of a block.
pub record PutsAfter {N : ℕ} (old new : Block N) (es : List Event) : Type 0 where
  pub more : gathered new ≡ gathered old ++ es
  pub unsorted : sorted new ≡ sorted old

-- the greatest time of the events in order, with these, at most one and not late
abbrev pub greatest_with : Mode → ℕ → List Event → ℕ
greatest_with mode greatest [] = greatest
greatest_with mode greatest (e ∷ es) = if is_ordered mode e then e.time else greatest

abbrev pub IsOnTime : Mode → ℕ → List Event → Type 0
IsOnTime mode greatest [] = Unit {0}
IsOnTime mode greatest (e ∷ es) = IsTrue (is_ordered mode e) → greatest ≤ e.time

-- Up to `now` no word is refused, and after the first ones come these events, none of them late.
pub record Adds (how : StreamSettings) (count sum greatest : ℕ) (words now : List ℕ) (es : List Event) : Type 0 where
  pub clear : refusals how now ≡ []
  pub clock : IsClock how.mode count sum greatest (map how.meaning now)
  pub came : events (map how.meaning now) ≡ events (map how.meaning words) ++ es
  pub delivers : how.policy.settle ≡ 0 → events_in how now ≡ events_in how words ++ on_time es

-- each event stands at a greater place than the one before it, and the first at a greater one than this
abbrev pub PlacesRise : ℕ → List Event → Type 0
PlacesRise low [] = Unit {0}
PlacesRise low (e ∷ es) = (low < e.place) × PlacesRise e.place es

-- The events stand at places that rise, after one place and not after another.
pub record RisesWithin (low high : ℕ) (es : List Event) : Type 0 where
  pub rises : PlacesRise low es
  pub last : place_after low es ≤ high

-- all events, or those in order alone
abbrev pub chosen : Bool → Mode → List Event → List Event
chosen false mode es = es
chosen true mode es = ordered mode es

-- The events are in order after a time, and the last of those has this one.
pub record IsInLine (mode : Mode) (low last : ℕ) (es : List Event) : Type 0 where
  pub in_order : InOrder (orders_markers mode) low es
  pub greatest : floor_after (orders_markers mode) low es ≡ last
  pub fit : AllFit mode es
