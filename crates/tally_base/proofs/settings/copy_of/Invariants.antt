use Rattle.{std.proofs.Common.{◌≡◌, ◌≤◌, take}, arrayvec.specs.ArrayVec.array_vec_len}
use Rattle.tally_base.proofs.settings.copy_of.Given as goal

abbrev pub invariant-loop-group : goal.invariant-loop-group
invariant-loop-group l = record {
  groups : l.found.items ≡ take l.group-index l.groups;
  few : array_vec_len l.found ≤ l.group-index;
}
