use Rattle.{std.proofs.Common.{◌≡◌, ◌≤◌, ◌*◌, length, take}, tcspc_hist.specs.Picked.photon_marks}
use Rattle.tcspc_hist.proofs.picking.pick.Given as goal

abbrev pub invariant-loop-k : goal.invariant-loop-k
invariant-loop-k l = record {
  sized : length l.marks ≡ 1024;
  few : l.many ≤ 8 * l.k;
  picked : take l.many l.marks ≡ photon_marks l.group l.block (8 * l.k);
}
