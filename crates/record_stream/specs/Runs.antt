-- Runs of reserved records.
use Rattle.std.specs.Prelude.{ℕ, ◌≡◌, ◌+◌, ◌<◌, ◌≤◌, [], false, List, length}
use Rattle.{tally_base.specs.Events.stops_reserved, ptu_definitions.specs.declared.records.{KindCounts.KindCounts, Raw.Raw}, abs_time.specs.Placing.{base_of, placed_by}}
use Rattle.{lane_decode.specs.{declared.columns.Columns.Columns, InColumns.{HasRows, row_at}}, record_stream.specs.{OneMore.with_block, Walking.{how_of, given_by, greatest_of, records_of, clock_in}}}
use Rattle.record_stream.specs.{Walking.summary_in, declared.walk.Walk.Walk}

-- The records of 64 words are in columns.
pub record IsBlock (meaning : ℕ → Raw) (unit : ℕ) (columns : Columns) (words : List (List ℕ)) : Type 0 where
  pub whole : length words ≡ 64
  pub rows : HasRows meaning unit columns words

-- From one place of 64 records up to another all are reserved.
pub record EndsReserved (columns : Columns) (from to : ℕ) : Type 0 where
  pub later : from ≤ to
  pub inside : to ≤ 64
  pub reserved : (at : ℕ) → from ≤ at → at < to → 512 < (row_at columns at).code

-- So many records more are not too many, and reserved ones are not refused.
pub record LetsSkip (walk : Walk) (many : ℕ) : Type 0 where
  pub room : records_of walk + many ≤ (how_of walk).policy.records
  pub skips : stops_reserved (how_of walk).policy.reserved ≡ false

-- the kinds of so many reserved records
abbrev pub reserved_kinds : ℕ → KindCounts
reserved_kinds many = record { records = many; photons = 0; markers = 0; wraps = 0; reserved = many }

-- So many reserved records more were counted and placed.
pub record Skips (old new : Walk) (many : ℕ) : Type 0 where
  pub same_how : how_of new ≡ how_of old
  pub same_given : given_by new ≡ given_by old
  pub summary : summary_in new ≡ with_block (summary_in old) (reserved_kinds many) []
  pub placed : placed_by (clock_in new) ≡ placed_by (clock_in old) + many
  pub same_base : base_of (clock_in new) ≡ base_of (clock_in old)
  pub same_greatest : greatest_of new ≡ greatest_of old
