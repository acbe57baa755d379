use Rattle.{std.{proofs.Common.take, specs.List.sum_by}, tally_base.specs.Settings.coincidence_view, coincidence.specs.Pairing.{Counts, lag_pair}}
use Rattle.coincidence.proofs.lags.pair_with_later.Given as goal

abbrev pub invariant-loop-entry : goal.invariant-loop-entry
invariant-loop-entry g l =
    let set = coincidence_view l.lags.set in
    Counts set l.initial.cells l.cells l.initial.steps l.steps (λ c. sum_by (λ e. lag_pair l.lags.direction set c l.lags.from l.lags.count e l.earlier) (take l.entry-index l.later)) l.entry-index
