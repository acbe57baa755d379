-- The counts of an image, and counts and lines after the events of a block.
use Rattle.std.specs.Prelude.{◌≡◌, ℕ, ◌+◌, ◌*◌, ◌<◌, Bool, List, Option, is_none, slice_index, if◌then◌else◌, ◌≤◌, ◌++◌, true, length}
use Rattle.tally_base.specs.{Settings.ImageView, declared.{settings.ImageSet.ImageSet, block.Block.Block}, Tally.{History, floor_after}, Columns.{count, code_at, time_at, item, rows, gathered}}
use Rattle.{tally_base.specs.{Columns.IsSorted, Limits.record_limit}, scan_image.specs.{declared.{lines.Lines.Lines, strip.Strip.Strip}, Lines.{Saw, image_of, markers_given, line_start}, Places.Mark}}
use Rattle.scan_image.specs.{Places.place_of, Strips.{place_on, width_of, height_of}, ImageCounts.{is_at, markers, count_met}}

-- how many photons have a place, or none, and a dtime that pass a test
abbrev pub HowMany : Type 0
HowMany = (Option (ℕ × ℕ) → ℕ → Bool) → ℕ

-- with so many more of one place and dtime
abbrev pub with_photon : HowMany → Option (ℕ × ℕ) → ℕ → ℕ → HowMany
with_photon many place dtime more = λ test. many test + (if test place dtime then more else 0)

-- Each of these cells says how many have their place there.
pub record Counted (set : ImageView) (cells : List ℕ) (outside : ℕ) (many : HowMany) : Type 0 where
  pub each : (x y : ℕ) → x < set.width → y < set.height → slice_index cells (y * set.width + x) ≡ many (λ place dtime. is_at x y place)
  pub rest : outside ≡ many (λ place dtime. is_none place)

-- The counts are over these events, and the lines saw their markers.
pub record IsBehind (over : HowMany → Type 0) (set : ImageView) (lines : Lines) (h : History) : Type 0 where
  pub counted : over (λ test. count_met set test h)
  pub saw : Saw lines (markers h)

-- Where some counts are after the events up to one place of a block, others are after those up to another.
abbrev pub CountsOn : {N : ℕ} → (HowMany → Type 0) → (HowMany → Type 0) → ImageView → Lines → Block N → ℕ → ℕ → Type 0
CountsOn before after set lines block from at = (h : History) → IsBehind before set lines (h ++ rows (item block) from) → IsBehind after set lines (h ++ rows (item block) at)

-- The strip tells where photons are after the markers that the lines saw.
abbrev pub IsStripOf : Lines → Strip → Type 0
IsStripOf lines strip = (ms : List Mark) → Saw lines ms → (time : ℕ) → place_on strip time ≡ place_of (image_of lines) time ms

-- The strip is as wide and as high as the image.
pub record IsOfSize (set : ImageSet) (strip : Strip) : Type 0 where
  pub width : width_of strip ≡ set.width
  pub height : height_of strip ≡ set.height

-- Where some counts and lines are after any events, others are after these and more.
abbrev pub CountsMore : (HowMany → Type 0) → (HowMany → Type 0) → ImageView → Lines → Lines → History → Type 0
CountsMore before after set lines lines' more = (h : History) → IsBehind before set lines h → IsBehind after set lines' (h ++ more)

-- The same up to another place of a block, for all lines that the strip tells the places of.
abbrev pub CountsOnStrip : {N : ℕ} → (HowMany → Type 0) → (HowMany → Type 0) → ImageView → Strip → Block N → ℕ → ℕ → Type 0
CountsOnStrip before after set strip block from at = (lines : Lines) → IsStripOf lines strip → image_of lines ≡ set → CountsOn before after set lines block from at

-- The events of a block from a place in it on come in order, and not before this time.
abbrev pub ComesFrom : {N : ℕ} → Block N → ℕ → ℕ → Type 0
ComesFrom block from start = IsSorted block × (from ≤ count block) × ((i : ℕ) → from ≤ i → i < count block → start ≤ time_at block i)

-- the place of the next marker from a place on, or the end of the block
abbrev pub StopsAt : {N : ℕ} → Block N → ℕ → ℕ → Type 0
StopsAt block from at = (from ≤ at) × (at ≤ count block) × (at < count block → 256 ≤ code_at block at)

-- Photons were counted from one place of a block to another, where the next marker stands or the block ends: no more of them than places, and the
-- counts are still of the size of the image.
pub record RunsTo {N : ℕ} (block : Block N) (from at : ℕ) (fits : Type 0) (total total' : ℕ) : Type 0 where
  pub fit : fits
  pub stops : StopsAt block from at
  pub few : total' + from ≤ total + at

-- The counts are of the size of the image, and have room for so many photons more.
pub record HasRoom (fits : Type 0) (total more : ℕ) : Type 0 where
  pub fit : fits
  pub room : total + more ≤ record_limit

-- They still are, and so many photons more were counted at most.
pub record Gained (fits : Type 0) (total total' more : ℕ) : Type 0 where
  pub fit : fits
  pub few : total' ≤ total + more

-- The lines are those of the image, and have room for so many markers more.
pub record LinesHaveRoom (set : ImageView) (lines : Lines) (more : ℕ) : Type 0 where
  pub of_set : image_of lines ≡ set
  pub few : markers_given lines + more ≤ record_limit

-- The lines saw no more markers than the block has events, and begin no later than these come.
pub record LinesGoOn {N : ℕ} (old new : Lines) (block : Block N) : Type 0 where
  pub of_set : image_of new ≡ image_of old
  pub few : markers_given new ≤ markers_given old + length (gathered block)
  pub begun : line_start new ≤ floor_after true (line_start old) (gathered block)
