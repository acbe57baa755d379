use Rattle.{std.{proofs.Common.{[], take}, specs.List.sum_by}, tally_base.specs.Settings.coincidence_view, coincidence.specs.Pairing.{bin_pairs, Counts}}
use Rattle.coincidence.proofs.closing.pair_insides.Given as goal

abbrev pub invariant-loop-bin : goal.invariant-loop-bin
invariant-loop-bin g l = Counts (coincidence_view l.set) l.initial.cells l.cells l.initial.steps l.steps
    (λ c. sum_by (λ bin. bin_pairs (coincidence_view l.set) c bin []) (take l.bin-index l.bins)) l.bin-index
