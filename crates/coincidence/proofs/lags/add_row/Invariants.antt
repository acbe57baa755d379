use Rattle.{std.specs.List.{sum_by, range_with_len}, tally_base.specs.Settings.coincidence_view, coincidence.specs.{Pairing.Counts, Closing.row_pairs}}
use Rattle.coincidence.proofs.lags.add_row.Given as goal

abbrev pub invariant-loop-q : goal.invariant-loop-q
invariant-loop-q g l = Counts (coincidence_view l.set) l.initial.cells l.cells l.initial.steps l.steps
    (λ c. sum_by (row_pairs (coincidence_view l.set) c l.from l.row) (range_with_len 0 l.q)) l.q
