use Rattle.{std.proofs.Common.take, tally_base.specs.Settings.coincidence_view, coincidence.specs.Pairing.Closes}
use Rattle.coincidence.proofs.closing.close_part.Given as goal

abbrev pub invariant-loop-bin : goal.invariant-loop-bin
invariant-loop-bin g l = Closes (coincidence_view l.set) l.initial.pairing l.pairing (take l.bin-index l.bins) l.initial.steps l.steps
