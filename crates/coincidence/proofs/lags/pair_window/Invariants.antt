use Rattle.{std.{proofs.Common.{◌+◌, ◌*◌, min}, specs.List.{sum_by, range_with_len}}, tally_base.specs.Settings.coincidence_view}
use Rattle.coincidence.specs.{Pairing.Counts, Closing.{lags_of, window_pairs}}
use Rattle.coincidence.proofs.lags.pair_window.Given as goal

abbrev pub invariant-loop-strip : goal.invariant-loop-strip
invariant-loop-strip g l =
    let set = coincidence_view l.places.set in
    let upto = min (l.strip * 256) (lags_of set l.places.base) in
    Counts set l.initial.cells l.cells l.initial.steps l.steps (λ c. sum_by (window_pairs l.direction set c l.places.base l.window l.spots) (range_with_len (l.places.base + 1) upto)) upto
