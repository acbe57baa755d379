-- What events in order let go, none of them late.
use Rattle.std.specs.{Prelude.{ℕ, ◌≡◌, ◌≢◌, ◌+◌, ◌≤◌, true, false, List, ◌++◌, length, map}, List.{All, AllByRecursion}}
use Rattle.{tally_base.specs.{declared.{block.Block.Block, event.Event.Event, header.Mode.Mode}, Columns.{sorted, gathered}, Events.is_ordered, Tally.InOrder}, ptu_definitions.specs.Settled.delivered}
use Rattle.{ptu_definitions.specs.{Settled.{not_marked, ordered}, Streams.{StreamSettings, events_in}, Times.events}, abs_time.specs.{Placing.placed_by, Floors.orders_markers}}
use Rattle.record_stream.specs.{Blocks.{on_time, AllFit, IsInLine, PlacesRise}, Keeping.{CanWait, IsKeeping}, Settling.IsSettledBehind, Walking.{how_of, greatest_of, clock_in}}
use Rattle.{record_stream.specs.declared.walk.Walk.Walk, settle.specs.{Standing.{HasSettled, kept_back, next_place, last_time, reach_of, was_popped}, declared.settle.Settle.Settle}}
use Rattle.settle.specs.Passing.{place_after}

-- each event is in order
abbrev pub AreOrdered : Mode → List Event → Type 0
AreOrdered mode es = AllByRecursion (λ e. is_ordered mode e ≡ true) es

-- Events that come next, each in order and none of them late.
pub record ComesNext (walk : Walk) (es : List Event) : Type 0 where
  pub places : PlacesRise (placed_by (clock_in walk)) es
  pub in_order : InOrder (orders_markers (how_of walk).mode) (greatest_of walk) es
  pub fit : AllFit (how_of walk).mode es
  pub ordered : AreOrdered (how_of walk).mode es

-- As many events are kept back as may be, and none is later than the greatest time so far.
pub record IsFull (walk : Walk) (settle : Settle) : Type 0 where
  pub full : length (kept_back settle) ≡ reach_of settle
  pub below : All (λ (x : Event). x.time ≤ greatest_of walk) (kept_back settle)

-- Events came at places after this one, and some were let go with them: in order, after the last one before them, and
-- as few as there are events that came or waited.
pub record LetsGo (mode : Mode) (low : ℕ) (from settle : Settle) (came went : List Event) : Type 0 where
  pub line : IsInLine mode (last_time from) (last_time settle) went
  pub fit : All (CanWait mode) (kept_back settle)
  pub reach : reach_of settle ≡ reach_of from
  pub unpopped : was_popped settle ≡ false
  pub behind : next_place settle ≤ place_after low came + 1
  pub few : length went ≤ length came
  pub count : length went + length (kept_back settle) ≤ length (kept_back from) + length came

-- The events of a block can let go: they come next, where events are put in their places.
pub record CanLetGo (walk : Walk) (settle : Settle) (came : List Event) : Type 0 where
  pub settles : (how_of walk).policy.settle ≢ 0
  pub keeps : IsKeeping walk settle
  pub comes : ComesNext walk came

-- After the events of these words these came, and with them these are delivered, none of them late.
pub record IsDelivered (how : StreamSettings) (settle : Settle) (words : List ℕ) (came went : List Event) : Type 0 where
  pub settled : HasSettled settle (ordered how.mode (events (map how.meaning words) ++ came)) (not_marked (events_in how words) ++ went)
  pub delivers : delivered how.policy.settle how.mode (events (map how.meaning words) ++ came) ≡ events_in how words ++ on_time went

-- What a block lets go is in another: in order, and what is delivered after whatever came before.
pub record LetsBlockGo {N : ℕ} (walk : Walk) (from settle : Settle) (block out : Block N) : Type 0 where
  pub lets_go : LetsGo (how_of walk).mode (placed_by (clock_in walk)) from settle (gathered block) (gathered out)
  pub delivers : (words : List ℕ) → IsSettledBehind walk from words → IsDelivered (how_of walk) settle words (gathered block) (gathered out)
  pub unsorted : sorted out ≡ 0
