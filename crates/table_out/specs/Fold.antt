-- How a fold is printed.
use Rattle.std.specs.Prelude.{◌++◌, ◌^◌, [], codes, decimal, length}
use Rattle.{tally_base.specs.Settings.FoldView, fold_count.specs.FoldCounts.in_set, table_out.specs.Printed.{Printed, cell_line}}

unfoldable pub fold_printed : FoldView → Printed
fold_printed set = record {
  word = codes "fold";
  settings = codes " window " ++ decimal set.window ++ codes " sets " ++ decimal (2 ^ length set.groups);
  rows = 1;
  columns = λ row. 2 ^ length set.groups;
  cell = λ row s h. cell_line s (in_set set s h);
  rest = λ h. [];
}
