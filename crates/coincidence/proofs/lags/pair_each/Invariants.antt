use Rattle.{std.proofs.Common.{take, length, ◌*◌}, tally_base.specs.Settings.coincidence_view, coincidence.specs.{Pairing.Counts, Closing.each_lag_pair}}
use Rattle.coincidence.proofs.lags.pair_each.Given as goal

abbrev pub invariant-loop-earlier : goal.invariant-loop-earlier
invariant-loop-earlier g l =
    let set = coincidence_view l.lags.set in
    Counts set l.initial.cells l.cells l.initial.steps l.steps (λ c. each_lag_pair l.lags.direction set c l.lags.from l.lags.count (take l.earlier-index l.entries) l.later) (l.earlier-index * length l.later)
