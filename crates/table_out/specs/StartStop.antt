-- How a start-stop table is printed.
use Rattle.std.specs.Prelude.{◌++◌, codes, decimal}
use Rattle.{tally_base.specs.Settings.StartStopView, coincidence.specs.Intervals.{in_interval, count_over}, list_out.specs.Lines.line, table_out.specs.Printed.{Printed, cell_line}}

unfoldable pub startstop_printed : StartStopView → Printed
startstop_printed set = record {
  word = codes "startstop";
  settings = codes " width " ++ decimal set.width ++ codes " bins " ++ decimal set.bins;
  rows = 1;
  columns = λ row. set.bins;
  cell = λ row b h. cell_line b (in_interval set b h);
  rest = λ h. line (codes "over") (decimal (count_over set h));
}
