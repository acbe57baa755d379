use Rattle.{std.proofs.Common.{ℕ, ◌≤◌, ◌<◌}, tally_base.specs.Settings.coincidence_view, coincidence.specs.Lone.IsLone}
use Rattle.coincidence.proofs.lone.lone_upto.Given as goal

abbrev pub invariant-loop-at : goal.invariant-loop-at
invariant-loop-at l = (k : ℕ) → l.from ≤ k → k < l.at → IsLone (coincidence_view l.given.set) l.given.block.now k
