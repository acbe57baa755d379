use Rattle.{std.proofs.Common.{◌≡◌, ◌≤◌, take}, arrayvec.specs.ArrayVec.array_vec_len, coincidence.specs.Closing.weights_in}
use Rattle.coincidence.proofs.closing.put_weights.Given as goal

abbrev pub invariant-loop-bin : goal.invariant-loop-bin
invariant-loop-bin l = record {
  entries : l.entries.items ≡ weights_in (take l.bin-index l.bins);
  few : array_vec_len l.entries ≤ l.bin-index;
}
