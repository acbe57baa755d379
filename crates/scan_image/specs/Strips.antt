-- Where photons are on the line that is open.
use Rattle.std.specs.{Prelude.{ℕ, ◌≡◌, Bool, true, false, ◌-◌, ◌/◌, nat_lt, Option, None, Some, if◌then◌else◌, ◌+◌, ◌%◌, ◌==◌, ◌&&◌, List, is_none, option_map, option_and_then}, List.list_any}
use Rattle.{tally_base.specs.Settings.{divisor_of, ImageView}, scan_image.specs.{declared.{strip.{Strip.Strip, Way.{Way, TheVariants.{Forwards, Backwards}}}, lines.Line.Line}, Places.from_last}}
use Rattle.scan_image.specs.Places.{Mark, is_frame, line_of, lines_in, row_of, within}

-- the time of the marker of the line
abbrev pub start_of : Strip → ℕ
start_of strip = strip.start

abbrev pub width_of : Strip → ℕ
width_of strip = strip.width

abbrev pub height_of : Strip → ℕ
height_of strip = strip.height

abbrev pub is_backwards : Strip → Bool
is_backwards strip = strip.backwards

-- It has as many columns and rows as the image.
pub record HasSizeOf (image : ImageView) (strip : Strip) : Type 0 where
  pub width : width_of strip ≡ image.width
  pub height : height_of strip ≡ image.height

-- whether this way is from the last column to the first
abbrev pub turns : Way → Bool
turns Forwards = false
turns Backwards = true

-- the column so many dwell times after the start of the line
abbrev pub column_on : Strip → ℕ → ℕ
column_on strip steps = if strip.backwards then strip.width - 1 - steps else steps

-- the column and the row of a photon so long after the start of the line, and nothing where it is outside the image
abbrev pub place_behind : Strip → ℕ → Option (ℕ × ℕ)
place_behind strip since = if strip.open then (if nat_lt (since / divisor_of strip.dwell) strip.width then Some (column_on strip (since / divisor_of strip.dwell), strip.row) else None) else None

-- of a photon at this time
abbrev pub place_on : Strip → ℕ → Option (ℕ × ℕ)
place_on strip time = place_behind strip (time - strip.start)

-- The line and the rows that lines keep, and the place of a photon by the line that is open.

abbrev pub line_at : ℕ → ℕ → Line
line_at start row = record { start = start; row = row }

-- the line and the row of a photon that comes next
abbrev pub open_line : ImageView → List Mark → Option Line
open_line set ms = option_and_then (λ line. option_map (line_at line.time) (row_of set ms)) (line_of set ms)

-- the row of a line that comes next
abbrev pub next_row_by : Option ℕ → ImageView → List Mark → Option ℕ
next_row_by None set ms = Some (lines_in set ms % set.height)
next_row_by (Some frame) set ms = if list_any (is_frame frame) ms then Some (lines_in set (from_last (is_frame frame) ms)) else None

abbrev pub next_row : ImageView → List Mark → Option ℕ
next_row set ms = next_row_by set.frame set ms

-- Without a frame bit the rows begin again after the last.
abbrev pub row_after : ImageView → ℕ → ℕ
row_after set row = if (row + 1 == set.height) && is_none set.frame then 0 else row + 1

abbrev pub place_by : ImageView → ℕ → Option Line → Option (ℕ × ℕ)
place_by set time line = option_and_then (λ line. within set ((time - line.start) / set.dwell) line.row) line
