-- How an image is printed.
use Rattle.std.specs.Prelude.{◌++◌, codes, decimal}
use Rattle.{tally_base.specs.Settings.ImageView, scan_image.specs.ImageCounts.{in_cell, count_outside}, list_out.specs.Lines.line, table_out.specs.Printed.{Printed, pair_line}}

unfoldable pub image_printed : ImageView → Printed
image_printed set = record {
  word = codes "image";
  settings = codes " width " ++ decimal set.width ++ codes " height " ++ decimal set.height ++ codes " dwell " ++ decimal set.dwell;
  rows = set.height;
  columns = λ y. set.width;
  cell = λ y x h. pair_line x y (in_cell set x y h);
  rest = λ h. line (codes "outside") (decimal (count_outside set h));
}
