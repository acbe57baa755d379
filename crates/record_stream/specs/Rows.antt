-- What is known of a record by its code.
use Rattle.std.specs.{Prelude.{ℕ, ◌≡◌, ◌+◌, ◌≤◌, Bool, true, false, nat_lt, List, [], ◌∷◌, if◌then◌else◌, ◌++◌, map, None, Ok}, declared.option.Option.Option}
use Rattle.{tally_base.specs.{declared.{event.Event.Event, header.Mode.{Mode, TheVariants.{T2, T3}}, fault.Fault.Fault}, Columns.event_by, Events.stops_late}, record_layout.specs.declared.row.Row.Row}
use Rattle.{record_stream.specs.{OneMore.with_raw, Walking.{how_of, given_by, records_of, summary_in, clock_in}, declared.walk.Walk.Walk}, ptu_definitions.specs.declared.records.Raw.Raw}
use Rattle.{ptu_definitions.specs.{Streams.{StreamSettings, refusal, late_refusal}, Times.{event_after, events}}, abs_time.specs.{declared.clock.Placed.Placed, Placing.{HasPlaced, IsNext, Moves}}}
use Rattle.abs_time.specs.Placing.{place_answer, greatest_by, placed_by}

-- the codes below this one are those of events in order
abbrev pub ordered_below : Mode → ℕ
ordered_below T2 = 256
ordered_below T3 = 512

-- the greatest time with a record, which is not late
abbrev pub greatest_with_row : ℕ → ℕ → ℕ → Row → ℕ
greatest_with_row ordered greatest base row = if nat_lt row.code ordered then base + row.time else greatest

-- those of all events, or of those in order alone
abbrev pub gathered_below : Bool → Mode → ℕ
gathered_below false mode = 512
gathered_below true mode = ordered_below mode

-- the event of a record, if its code is below this one
abbrev pub event_below : ℕ → ℕ → ℕ → Row → List Event
event_below below place base row = if nat_lt row.code below then event_by place row.code row.dtime (base + row.time) ∷ [] else []

-- A word whose record was counted and placed.

-- a record is refused for nothing but, perhaps, that its event is late
abbrev pub refused_late : StreamSettings → List Raw → Raw → Option Fault
refused_late how before raw =
    if stops_late how.policy.order then late_refusal how.policy.settle how.mode (events before) (event_after before raw) else None

-- After these words it is refused for nothing else, and this is what it is.
pub record IsPlaced (old new : Walk) (words : List ℕ) (word : ℕ) (placed : Placed) : Type 0 where
  pub refusal : refusal (how_of old) words word ≡ refused_late (how_of old) (map (how_of old).meaning words) ((how_of old).meaning word)
  pub answer : place_answer (how_of old).mode (map (how_of old).meaning words) ((how_of old).meaning word) ≡ Ok placed
  pub clock : HasPlaced (clock_in new) (map (how_of old).meaning words ++ (how_of old).meaning word ∷ [])
  pub summary : summary_in new ≡ with_raw (summary_in old) ((how_of old).meaning word)

-- One record more was counted and placed.
pub record CountsOne (old new : Walk) (placed : Placed) : Type 0 where
  pub counted : records_of new ≡ records_of old + 1
  pub next : IsNext (placed_by (clock_in old)) (placed_by (clock_in new)) placed
  pub moves : Moves (how_of old).mode (greatest_by (clock_in old)) (greatest_by (clock_in new)) placed

-- It reads as before and has given no event more.
pub record KeepsGiven (old new : Walk) : Type 0 where
  pub same_how : how_of new ≡ how_of old
  pub same_given : given_by new ≡ given_by old
  pub more_records : records_of old ≤ records_of new
  pub more_placed : placed_by (clock_in old) ≤ placed_by (clock_in new)
