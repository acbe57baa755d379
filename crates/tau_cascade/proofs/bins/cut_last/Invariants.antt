use Rattle.{std.{proofs.Common.{◌≡◌, ◌<◌, length, map, drop, sum_by}, specs.List.AllByRecursion}, lag_ring.specs.declared.ring.Entry.Entry}
use Rattle.tau_cascade.specs.Bins.{raised}
use Rattle.tau_cascade.proofs.bins.cut_last.Given as goal

abbrev pub invariant-back : goal.invariant-back
invariant-back l = record {
  few : l.closed < length l.list;
  here : AllByRecursion (λ (e : Entry). e.index ≡ l.index) (map (raised l.levels) (drop l.closed l.list));
  a : l.a ≡ sum_by (λ (e : Entry). e.a) (map (raised l.levels) (drop l.closed l.list));
  b : l.b ≡ sum_by (λ (e : Entry). e.b) (map (raised l.levels) (drop l.closed l.list));
}

abbrev pub decreases-back : goal.decreases-back
decreases-back l = l.closed
