-- A block of words whose records are in columns.
use Rattle.std.specs.{Prelude.{ℕ, zero, suc, ◌≡◌, ◌<◌, ◌≤◌, ◌+◌, ◌*◌, ◌^◌, Bool, List, length, map, nat_lt, None, Some, if◌then◌else◌}, declared.option.Option.Option, Option.unwrap_or}
use Rattle.{tally_base.specs.{declared.event.Event.Event, Limits.record_limit}, ptu_definitions.specs.{Kinds.counts_of, Words.numbers}, record_layout.specs.Sums.IsSplit}
use Rattle.{abs_time.specs.{declared.clock.Clock.Clock, Placing.{base_of, mode_of, placed_by}}, record_stream.specs.{declared.{ahead.Ahead.Ahead, walk.Walk.Walk}, Rows.ordered_below}}
use Rattle.{record_stream.specs.{Rows.gathered_below, Walking.{how_of, greatest_of, records_of, clock_in, Gathers}}, lane_decode.specs.{declared.columns.Columns.Columns, InColumns.{row_at, wraps_at}}}
use Rattle.lane_decode.specs.{InColumns.{sum_to, time_in}, Staying.{staying, event_in}}

-- the events of the records whose codes are below this one
abbrev pub events_below : ℕ → Clock → ℕ → Columns → List Event
events_below below clock unit columns = map (event_in (placed_by clock) (base_of clock) unit columns) (staying below columns 64)

-- the last of the first so many times whose code is below this one
unfoldable pub last_below : ℕ → (ℕ → ℕ) → (ℕ → ℕ) → ℕ → Option ℕ
last_below below codes times zero = None
last_below below codes times (suc n) = if nat_lt (codes n) below then Some (times n) else last_below below codes times n

-- that of records
abbrev pub last_time : ℕ → ℕ → ℕ → Columns → Option ℕ
last_time below base unit columns = last_below below (λ i. (row_at columns i).code) (time_in base unit columns) 64

-- Their places and times are numbers of 64 bits.
pub record InReach (clock : Clock) (unit : ℕ) (columns : Columns) : Type 0 where
  pub few : (i : ℕ) → i < 64 → wraps_at columns i ≤ 2 ^ 25
  pub times : (i : ℕ) → i < 64 → time_in (base_of clock) unit columns i < 2 ^ 64
  pub places : placed_by clock + 64 ≤ record_limit

-- It is at least what their wraps add, and a time after it is below 2^64.
pub record IsAfterAll (unit : ℕ) (columns : Columns) (sum : ℕ) : Type 0 where
  pub low : unit * sum_to (wraps_at columns) 64 ≤ sum
  pub room : sum + 2 ^ 32 ≤ 2 ^ 64

-- What their events are, in short.
pub record IsAhead (clock : Clock) (unit : ℕ) (columns : Columns) (ahead : Ahead) : Type 0 where
  pub events : ahead.counts.photons + ahead.counts.markers ≡ length (events_below 512 clock unit columns)
  pub last : ahead.last ≡ last_time 512 (base_of clock) unit columns
  pub greatest : ahead.greatest ≡ last_time (ordered_below (mode_of clock)) (base_of clock) unit columns

-- None of the words is refused, no event of theirs is late, and this is where they lead.
pub record LeadsTo (walk : Walk) (words : List (List ℕ)) (unit : ℕ) (columns : Columns) (ahead : Ahead) : Type 0 where
  pub counts : ahead.counts ≡ counts_of (map (how_of walk).meaning (numbers words))
  pub records : ahead.counts.records ≡ length words
  pub split : IsSplit ahead.counts
  pub room : records_of walk + 64 ≤ (how_of walk).policy.records
  pub reach : InReach (clock_in walk) unit columns
  pub in_short : IsAhead (clock_in walk) unit columns ahead
  pub gathers : (only : Bool) → Gathers walk words only ahead.base (unwrap_or ahead.greatest (greatest_of walk)) (events_below (gathered_below only (how_of walk).mode) (clock_in walk) unit columns)
