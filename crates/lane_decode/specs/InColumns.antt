-- Records by their parts in columns.
use Rattle.std.specs.{Prelude.{ℕ, zero, suc, ◌+◌, ◌*◌, ◌≡◌, ◌<◌, ◌≤◌, [], List, length, slice_index, slice_index_or}, Int.{from_le_bytes, w32}}
use Rattle.{tally_base.specs.Codes.{code_in, dtime_in}, ptu_definitions.specs.{declared.records.Raw.Raw, Times.amount}, record_layout.specs.{Rowed.raw_of, declared.row.Row.Row}}
use Rattle.lane_decode.specs.declared.columns.Columns.{Columns}

-- The parts are those of what a word means, where a wrap adds a unit.
pub record IsRow (meaning : ℕ → Raw) (unit : ℕ) (row : Row) (word : ℕ) : Type 0 where
  pub raw : raw_of unit row ≡ meaning word
  pub amounts : unit * row.wraps ≡ amount (meaning word)

-- the record at a place
abbrev pub row_at : Columns → ℕ → Row
row_at rows i = record {
  code = code_in (slice_index rows.marks i);
  time = slice_index rows.times i;
  dtime = dtime_in (slice_index rows.marks i);
  wraps = slice_index rows.wraps i;
}

-- The columns have the records of the first so many of these words.
abbrev pub HasRowsTo : (ℕ → Raw) → ℕ → Columns → List (List ℕ) → ℕ → Type 0
HasRowsTo meaning unit rows words n = (i : ℕ) → i < n → IsRow meaning unit (row_at rows i) (from_le_bytes w32 (slice_index_or words i []))

abbrev pub HasRows : (ℕ → Raw) → ℕ → Columns → List (List ℕ) → Type 0
HasRows meaning unit rows words = HasRowsTo meaning unit rows words (length words)

-- how many wraps the record at a place stands for
abbrev pub wraps_at : Columns → ℕ → ℕ
wraps_at rows i = slice_index rows.wraps i

-- the sum of the first so many
unfoldable pub sum_to : (ℕ → ℕ) → ℕ → ℕ
sum_to f zero = 0
sum_to f (suc n) = sum_to f n + f n

-- the time of the record at a place, with the wraps before it and its own
abbrev pub time_in : ℕ → ℕ → Columns → ℕ → ℕ
time_in base unit rows i = base + unit * sum_to (wraps_at rows) (i + 1) + slice_index rows.times i

-- the time before the one at a place
abbrev pub before : ℕ → (ℕ → ℕ) → ℕ → ℕ
before low f zero = low
before low f (suc i) = f i

-- None of so many times is before the one before it.
abbrev pub Rises : ℕ → (ℕ → ℕ) → ℕ → Type 0
Rises low f n = (i : ℕ) → i < n → before low f i ≤ f i
