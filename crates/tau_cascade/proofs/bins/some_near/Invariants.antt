use Rattle.std.proofs.Common.{◌<◌}
use Rattle.tau_cascade.proofs.bins.some_near.Given as goal

abbrev pub invariant-loop-i : goal.invariant-loop-i
invariant-loop-i l = l.count < l.i
