use Rattle.{std.proofs.Common.{◌≡◌, ◌+◌, ◌-◌, ◌≤◌, ◌++◌, []}, tally_base.specs.{Settings.coincidence_view, Tally.History, Columns.{item, rows, gathered}}}
use Rattle.coincidence.specs.{Pairs.photons_of_groups, Pairing.{Gathered, Came}, StandsFor.CanTake}
use Rattle.coincidence.proofs.taking.take_block.Given as goal

abbrev pub invariant-loop-at : goal.invariant-loop-at
invariant-loop-at g l = record {
  came : (h : History) → CanTake (coincidence_view l.given.set) (Came (coincidence_view l.given.set) l.initial.pairing) (gathered l.given.block.now) h → Gathered (coincidence_view l.given.set) l.open l.pairing.ring l.pairing.cells [] (photons_of_groups (coincidence_view l.given.set) (h ++ rows (item l.given.block.now) l.at));
  within : l.at ≤ l.given.block.now.len;
  steps : l.steps + l.initial.pairing.cells.added ≡ l.initial.steps + l.pairing.cells.added;
}

abbrev pub decreases-loop-at : goal.decreases-loop-at
decreases-loop-at g l = l.given.block.now.len - l.at
