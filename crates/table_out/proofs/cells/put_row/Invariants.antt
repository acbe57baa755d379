use Rattle.{std.proofs.Common.◌≡◌, table_out.specs.{Report.{PutsText, printed}, Printed.texts_of}}
use Rattle.table_out.proofs.cells.put_row.Given as goal

abbrev pub invariant-loop-column : goal.invariant-loop-column
invariant-loop-column g l = record {
  put : PutsText (g.T.Tally.holds l.table) (texts_of ((printed (g.T.Tally.settings l.table)).cell l.row) l.column)
      (g.O.Sink.state l.initial.out) (g.O.Sink.state l.out) l.initial.block l.block;
  kept : (g.O.Sink.state l.out).faults ≡ (g.O.Sink.state l.initial.out).faults;
}
