use Rattle.{std.{proofs.Common.{◌≤◌, length, drop, map}, specs.List.AllByRecursion}, lag_ring.specs.declared.ring.Entry.Entry, tau_cascade.specs.Bins.raised}
use Rattle.tau_cascade.proofs.bins.first_kept.Given as goal

abbrev pub invariant-back : goal.invariant-back
invariant-back l = record {
  within : l.start ≤ length l.bins;
  kept : AllByRecursion (λ (e : Entry). l.before ≤ e.index) (drop l.start (map (raised l.levels) l.bins));
}

abbrev pub decreases-back : goal.decreases-back
decreases-back l = l.start
