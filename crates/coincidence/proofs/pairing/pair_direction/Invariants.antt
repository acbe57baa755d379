use Rattle.{std.proofs.Common.take, tally_base.specs.Settings.coincidence_view, coincidence.specs.Pairing.{pairs_at, Counts}}
use Rattle.coincidence.proofs.pairing.pair_direction.Given as goal

abbrev pub invariant-loop-earlier : goal.invariant-loop-earlier
invariant-loop-earlier g l = let set = coincidence_view l.fn.set in
    Counts set l.initial.cells l.cells l.initial.steps l.steps (λ c. pairs_at l.fn.direction set c l.later (take l.earlier-index l.entries)) l.earlier-index
