use Rattle.{std.proofs.Common.{◌*◌, length, min}, coincidence.specs.{Pairing.Counts, Closing.both_lag_sums, Stretch.{reached, view_of}}}
use Rattle.coincidence.proofs.lags.pair_lags.Given as goal

abbrev pub invariant-loop-turn : goal.invariant-loop-turn
invariant-loop-turn g l =
    let set = view_of l.stretch in
    let upto = min (l.turn * 4096) set.reach in
    Counts set l.initial.cells l.cells l.initial.steps l.steps (λ c. both_lag_sums set c 0 upto (reached l.stretch) l.stretch.later.now) (2 * (length l.stretch.later.now * upto))
