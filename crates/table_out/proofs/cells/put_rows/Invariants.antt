use Rattle.{std.proofs.Common.◌≡◌, table_out.specs.{Report.{PutsText, printed}, Printed.rows_of}}
use Rattle.table_out.proofs.cells.put_rows.Given as goal

abbrev pub invariant-loop-row : goal.invariant-loop-row
invariant-loop-row g l = record {
  put : PutsText (g.T.Tally.holds l.table) (rows_of (printed (g.T.Tally.settings l.table)).cell (printed (g.T.Tally.settings l.table)).columns l.row)
      (g.O.Sink.state l.initial.out) (g.O.Sink.state l.out) l.initial.block l.block;
  kept : (g.O.Sink.state l.out).faults ≡ (g.O.Sink.state l.initial.out).faults;
}
