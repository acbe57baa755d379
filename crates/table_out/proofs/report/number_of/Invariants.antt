use Rattle.{std.proofs.Common.{◌≡◌, ◌+◌, ◌≤◌, take, count_by}, tally_engine.specs.{contracts.part.PartTally.TheImpl.ghosts, Parts.settings_in}}
use Rattle.table_out.specs.Report.{same_kind}
use Rattle.table_out.proofs.report.number_of.Given as goal

abbrev pub invariant-loop-other : goal.invariant-loop-other
invariant-loop-other l = record {
  counted : l.number ≡ count_by (same_kind (ghosts.settings l.part)) (settings_in (take l.other-index l.before)) + 1;
  few : l.number ≤ l.other-index + 1;
}
