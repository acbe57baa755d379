use Rattle.std.proofs.Common.{◌≡◌, ◌≤◌, false}
use Rattle.table_tests.proofs.given.give_all.Given as goal

abbrev pub invariant-loop-time : goal.invariant-loop-time
invariant-loop-time g l = record {
  not_closed : g.T.Tally.closed l.table ≡ false;
  count : g.T.Tally.taken l.table ≡ l.time-index;
  early : g.T.Tally.floor l.table ≤ l.latest;
}
