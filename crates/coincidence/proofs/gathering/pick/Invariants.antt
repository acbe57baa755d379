use Rattle.{std.proofs.Common.{◌≤◌, take}, tally_base.specs.Settings.coincidence_view, coincidence.specs.Picked.ArePicked}
use Rattle.coincidence.proofs.gathering.pick.Given as goal

abbrev pub invariant-loop-at : goal.invariant-loop-at
invariant-loop-at l = record {
  few : l.picked ≤ l.at;
  picked : ArePicked (coincidence_view l.given.set) l.given.block.now (take l.picked l.rows) 0 l.at;
}
