use Rattle.{std.proofs.Common.{map, take}, tau_cascade.specs.{Dense.IsLaid, Bins.raised}}
use Rattle.tau_cascade.proofs.laid.lay_before.Given as goal

abbrev pub invariant-loop-bin : goal.invariant-loop-bin
invariant-loop-bin l = IsLaid l.window l.reach l.first l.laying (take l.bin-index (map (raised l.bins.levels) l.before))
