use Rattle.{std.proofs.Common.{◌<◌, take}, tau_cascade.specs.Bins.IsSpaced}
use Rattle.tau_cascade.proofs.bins.spacing.Given as goal

abbrev pub invariant-loop-at : goal.invariant-loop-at
invariant-loop-at l = 0 < l.least → IsSpaced l.least (take l.at l.bins)
