-- How a cube is printed.
use Rattle.std.specs.Prelude.{ℕ, ◌*◌, ◌/◌, ◌%◌, ◌==◌, ◌++◌, List, [], codes, decimal, if◌then◌else◌}
use Rattle.{tally_base.specs.Settings.CubeView, scan_image.specs.ImageCounts.count_outside, flim_cube.specs.CubeCounts.{in_cell, count_over}, list_out.specs.Lines.line}
use Rattle.table_out.specs.Printed.{Printed}

-- the three numbers of a cell and its count. A cell that is 0 has no line.
abbrev pub triple_line : ℕ → ℕ → ℕ → ℕ → List ℕ
triple_line first second third count = if count == 0 then [] else decimal first ++ codes " " ++ (decimal second ++ codes " " ++ line (decimal third) (decimal count))

-- a row of a cube has the bins of each of its pixels, one pixel after the other
unfoldable pub cube_printed : CubeView → Printed
cube_printed set = record {
  word = codes "cube";
  settings = codes " width " ++ decimal set.image.width ++ codes " height " ++ decimal set.image.height ++ codes " dwell " ++ decimal set.image.dwell ++ codes " dwidth " ++ decimal set.dwidth ++ codes " dbins " ++ decimal set.dbins;
  rows = set.image.height;
  columns = λ y. set.image.width * set.dbins;
  cell = λ y place h. triple_line (place / set.dbins) y (place % set.dbins) (in_cell set (place / set.dbins) y (place % set.dbins) h);
  rest = λ h. line (codes "outside") (decimal (count_outside set.image h)) ++ line (codes "over") (decimal (count_over set h));
}
