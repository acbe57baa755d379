use Rattle.std.{proofs.Common.{◌<◌, ◌≤◌, take}, specs.List.AllByRecursion}
use Rattle.coincidence.proofs.lags.are_near.Given as goal

abbrev pub invariant-loop-entry : goal.invariant-loop-entry
invariant-loop-entry l = AllByRecursion (λ e. (l.low ≤ e.index) × (e.index < l.high)) (take l.entry-index l.later)
