-- What the lines of a scan stand for.
use Rattle.std.specs.{Prelude.{◌≡◌, ◌≤◌, ℕ, List, length, Option}, Option.option_map_or}
use Rattle.{tally_base.specs.Settings.{ImageView, image_view}, scan_image.specs.{Places.{Mark, greatest_time}, Strips.{open_line, next_row}, declared.lines.{Line.Line, Lines.Lines}}}

-- the image that they are of
abbrev pub image_of : Lines → ImageView
image_of lines = image_view lines.set

-- how many markers came
abbrev pub markers_given : Lines → ℕ
markers_given lines = lines.given

-- when a line began, or 0 for none
abbrev pub start_or_none : Option Line → ℕ
start_or_none line = option_map_or (λ line. line.start) line 0

-- when the line began that no stop has ended, or 0 where there is none
abbrev pub line_start : Lines → ℕ
line_start lines = start_or_none lines.line

-- These markers came, in this order.
pub record Saw (lines : Lines) (ms : List Mark) : Type 0 where
  pub line : lines.line ≡ open_line (image_of lines) ms
  pub next : lines.next_row ≡ next_row (image_of lines) ms
  pub given : markers_given lines ≡ length ms
  pub begun : line_start lines ≤ greatest_time ms
