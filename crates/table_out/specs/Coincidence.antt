-- How a table of coincidences is printed.
use Rattle.std.specs.Prelude.{◌++◌, codes, decimal, []}
use Rattle.{tally_base.specs.Settings.{CoincidenceView, coincidence_cells}, coincidence.specs.Pairs.coincidences, table_out.specs.Printed.{Printed, cell_line}}

unfoldable pub coincidence_printed : CoincidenceView → Printed
coincidence_printed set = record {
  word = codes "coincidence";
  settings = codes " reach " ++ decimal set.reach ++ codes " width " ++ decimal set.width;
  rows = 1;
  columns = λ row. coincidence_cells set;
  cell = λ row c h. cell_line c (coincidences set c h);
  rest = λ h. [];
}
