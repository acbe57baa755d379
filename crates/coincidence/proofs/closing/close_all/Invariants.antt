use Rattle.{std.proofs.Common.{◌≡◌, ◌≤◌, ◌++◌, List, length}, tally_base.specs.Settings.coincidence_view, coincidence.specs.declared.pairing.Bin.Bin}
use Rattle.coincidence.specs.Pairing.{Closes}
use Rattle.coincidence.proofs.closing.close_all.Given as goal

abbrev pub invariant-loop-rest : goal.invariant-loop-rest
invariant-loop-rest g l = record {
  few : length l.rest ≤ 1024;
  closes : (done : List Bin) × (done ++ l.rest ≡ l.bins) × Closes (coincidence_view l.set) l.initial.pairing l.pairing done l.initial.steps l.steps;
}

abbrev pub decreases-loop-rest : goal.decreases-loop-rest
decreases-loop-rest g l = length l.rest
