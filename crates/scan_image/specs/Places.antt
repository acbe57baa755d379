-- Where a photon is in an image, by all the markers before it.
use Rattle.std.specs.{Prelude.{ℕ, Bool, ◌-◌, ◌/◌, ◌%◌, ◌&&◌, ◌==◌, nat_lt, List, Option, None, Some, count_by, option_and_then, if◌then◌else◌, false, max, fold, [], ◌∷◌, filter}, List.list_any}
use Rattle.std.specs.{List.last_or, Int.bit_at}
use Rattle.tally_base.specs.Settings.{ImageView}

-- The markers of a scan, and a list, seen from its last element that passes a test.

-- what a marker event says: its bits and its time
pub record Mark : Type 0 where
  pub bits : ℕ
  pub time : ℕ

abbrev pub mark : ℕ → ℕ → Mark
mark bits time = record { bits = bits; time = time }

-- These bits have bit n, which has the value 2 ^ (n - 1).
abbrev pub has_bit : ℕ → ℕ → Bool
has_bit n bits = bit_at bits (n - 1) == 1

-- where a plan names no bit, no bits have it
abbrev pub has_named_bit : Option ℕ → ℕ → Bool
has_named_bit None bits = false
has_named_bit (Some n) bits = has_bit n bits

-- the greatest time of these markers, or 0 where there are none
abbrev pub greatest_time : List Mark → ℕ
greatest_time ms = fold (λ t m. max t m.time) 0 ms

-- the last element that passes
abbrev pub last_that : {X : Type 0} → (X → Bool) → List X → Option X
last_that p xs = last_or None (filter p xs)

-- the list up to its last element that passes, that one included, and nothing where none passes
abbrev pub until_last : {X : Type 0} → (X → Bool) → List X → List X
until_last p [] = []
until_last p (x ∷ xs) = if list_any p (x ∷ xs) then x ∷ until_last p xs else []

-- the elements after the last one that passes, and all of them where none passes
abbrev pub behind_last : {X : Type 0} → (X → Bool) → List X → List X
behind_last p [] = []
behind_last p (x ∷ xs) = if list_any p (x ∷ xs) then behind_last p xs else x ∷ xs

-- the list from its last element that passes on, that one included, and nothing where none passes
abbrev pub from_last : {X : Type 0} → (X → Bool) → List X → List X
from_last p [] = []
from_last p (x ∷ xs) = if list_any p xs then from_last p xs else if p x then x ∷ xs else []

-- Where a photon is in an image, by all the markers before it.

abbrev pub is_line : ImageView → Mark → Bool
is_line set m = has_bit set.line m.bits

abbrev pub is_stop : ImageView → Mark → Bool
is_stop set m = has_named_bit set.stop m.bits

abbrev pub is_frame : ℕ → Mark → Bool
is_frame frame m = has_bit frame m.bits

-- The line of a photon is the last marker before it with the line bit, provided that none after that one has the stop bit.
abbrev pub line_of : ImageView → List Mark → Option Mark
line_of set ms = if list_any (is_stop set) (behind_last (is_line set) ms) then None else last_that (is_line set) ms

-- how many of these markers have the line bit
abbrev pub lines_in : ImageView → List Mark → ℕ
lines_in set ms = count_by (is_line set) ms

-- The row of a line that ends this list of markers. With a frame bit the lines count from the last frame marker on, that one
-- included, and there is no row where there is none. Without a frame bit they count from the start of the list on, modulo the height.
abbrev pub row_at : Option ℕ → ImageView → List Mark → Option ℕ
row_at None set ms = Some ((lines_in set ms - 1) % set.height)
row_at (Some frame) set ms = if list_any (is_frame frame) ms then Some (lines_in set (from_last (is_frame frame) ms) - 1) else None

-- the row of the last line
abbrev pub row_of : ImageView → List Mark → Option ℕ
row_of set ms = row_at set.frame set (until_last (is_line set) ms)

-- the odd rows of a serpentine image are run through backwards
abbrev pub runs_back : ImageView → ℕ → Bool
runs_back set row = set.serpentine && (row % 2 == 1)

-- the column that is so many dwell times after the start of a row
abbrev pub column_in : ImageView → ℕ → ℕ → ℕ
column_in set row steps = if runs_back set row then set.width - 1 - steps else steps

-- the column and the row so many dwell times after the start of a row, and nothing where the image ends before them
abbrev pub within : ImageView → ℕ → ℕ → Option (ℕ × ℕ)
within set steps row = if nat_lt steps set.width && nat_lt row set.height then Some (column_in set row steps, row) else None

-- the column and the row of a photon at this time after these markers
abbrev pub place_of : ImageView → ℕ → List Mark → Option (ℕ × ℕ)
place_of set time ms = option_and_then (λ line. option_and_then (within set ((time - line.time) / set.dwell)) (row_of set ms)) (line_of set ms)
