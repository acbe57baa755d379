use Rattle.{std.proofs.Common.◌≡◌, table_out.{specs.Report.{EachHolds, PutsText}, proofs.Putting.first_texts}}
use Rattle.table_out.proofs.report.put_parts.Given as goal

abbrev pub invariant-loop-place : goal.invariant-loop-place
invariant-loop-place g l = record {
  put : PutsText (EachHolds l.parts) (first_texts l.place) (g.O.Sink.state l.initial.out) (g.O.Sink.state l.out) l.initial.block l.block;
  kept : (g.O.Sink.state l.out).faults ≡ (g.O.Sink.state l.initial.out).faults;
}
