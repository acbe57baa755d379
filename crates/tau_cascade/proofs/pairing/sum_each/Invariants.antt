use Rattle.{std.proofs.Common.{map, take}, tau_cascade.specs.{Bins.raised, Dense.ArePaired}}
use Rattle.tau_cascade.proofs.pairing.sum_each.Given as goal

abbrev pub invariant-loop-at : goal.invariant-loop-at
invariant-loop-at l = ArePaired l.range l.bins.start l.initial.sums l.sums (take l.at (map (raised l.bins.levels) l.bins.list.now))
