-- How a histogram is printed.
use Rattle.std.specs.Prelude.{◌++◌, codes, decimal}
use Rattle.{tally_base.specs.Settings.HistView, tcspc_hist.specs.HistogramCounts.{in_bin, count_over}, list_out.specs.Lines.line, table_out.specs.Printed.{Printed, cell_line}}

unfoldable pub histogram_printed : HistView → Printed
histogram_printed set = record {
  word = codes "histogram";
  settings = codes " width " ++ decimal set.width ++ codes " bins " ++ decimal set.bins;
  rows = 1;
  columns = λ row. set.bins;
  cell = λ row b h. cell_line b (in_bin set b h);
  rest = λ h. line (codes "over") (decimal (count_over set h));
}
