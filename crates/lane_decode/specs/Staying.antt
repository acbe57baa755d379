-- Records that stay, put close together.
use Rattle.std.specs.{Prelude.{ℕ, ◌≡◌, ◌<◌, ◌/◌, ◌%◌, ◌^◌, ◌==◌, ◌++◌, ◌-◌, Bool, List, length, slice_index, replicate, ◌+◌, nat_lt}, List.{filter, range_with_len}}
use Rattle.{tally_base.specs.{declared.event.Event.Event, Codes.code_in, Columns.event_by}, lane_decode.specs.{declared.columns.Columns.Columns, InColumns.{row_at, time_in}}}

-- whether the code of the record at a place is below this one
abbrev pub stays : ℕ → Columns → ℕ → Bool
stays below columns i = nat_lt (code_in (slice_index columns.marks i)) below

-- the places of the first so many records that stay
unfoldable pub staying : ℕ → Columns → ℕ → List ℕ
staying below columns n = filter (stays below columns) (range_with_len 0 n)

-- the event of a record, where so many were placed before the first one, whose time counts from this base
abbrev pub event_in : ℕ → ℕ → ℕ → Columns → ℕ → Event
event_in placed base unit columns i = event_by (placed + i + 1) (row_at columns i).code (row_at columns i).dtime (time_in base unit columns i)

-- Lanes chosen by the bits of a number.

-- whether the bit at a place is set
unfoldable pub has_bit : ℕ → ℕ → Bool
has_bit bits i = bits / 2 ^ i % 2 == 1

-- the places of the lowest eight bits that are set
unfoldable pub bits_in : ℕ → List ℕ
bits_in bits = filter (has_bit bits) (range_with_len 0 8)

-- Eight lanes, of which the first are, for each bit that is set, what its place gives.
pub record HasClose (bits : ℕ) (at : ℕ → ℕ) (eight : List ℕ) : Type 0 where
  pub lanes : length eight ≡ 8
  pub close : (j : ℕ) → j < length (bits_in bits) → slice_index eight j ≡ at (slice_index (bits_in bits) j)

-- Eight lanes, each by its place.
pub record HasLanes (at : ℕ → ℕ) (eight : List ℕ) : Type 0 where
  pub lanes : length eight ≡ 8
  pub each : (j : ℕ) → j < 8 → slice_index eight j ≡ at j

-- eight places, with 0 after these
abbrev pub lanes_in : ℕ → List ℕ
lanes_in bits = bits_in bits ++ replicate (8 - length (bits_in bits)) 0
