-- How a trace is printed.
use Rattle.std.specs.Prelude.{◌++◌, codes, decimal}
use Rattle.{tally_base.specs.Settings.TraceView, count_trace.specs.TraceCounts.{in_trace_bin, count_before, count_beyond}, list_out.specs.Lines.line, table_out.specs.Printed.{Printed, cell_line}}

unfoldable pub trace_printed : TraceView → Printed
trace_printed set = record {
  word = codes "trace";
  settings = codes " origin " ++ decimal set.origin ++ codes " width " ++ decimal set.width ++ codes " bins " ++ decimal set.bins;
  rows = 1;
  columns = λ row. set.bins;
  cell = λ row b h. cell_line b (in_trace_bin set b h);
  rest = λ h. line (codes "before") (decimal (count_before set h)) ++ line (codes "beyond") (decimal (count_beyond set h));
}
