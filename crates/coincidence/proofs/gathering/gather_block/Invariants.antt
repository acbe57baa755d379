use Rattle.{std.proofs.Common.{◌≤◌, drop}, tally_base.specs.Settings.coincidence_view, arrayvec.specs.ArrayVec.array_vec_len}
use Rattle.coincidence.proofs.Picked.{GatheredTo}
use Rattle.coincidence.proofs.gathering.gather_block.Given as goal

abbrev pub invariant-loop-row : goal.invariant-loop-row
invariant-loop-row l = record {
  came : GatheredTo (coincidence_view l.given.set) l.given.block.now l.fn.waiting l.open l.bins.items (drop l.row-index l.row-items);
  few : array_vec_len l.bins ≤ l.row-index;
}
