use Rattle.{std.proofs.Common.{◌<◌, take}, lag_ring.specs.Bytes.IsLight}
use Rattle.lag_ring.proofs.bytes.weight_bound.Given as goal

abbrev pub invariant-loop-entry : goal.invariant-loop-entry
invariant-loop-entry l = (0 < l.most) × IsLight l.most (take l.entry-index l.entries)
