use Rattle.{std.proofs.Common.{◌≡◌, ◌<◌, ◌^◌, take}, tally_base.specs.Events.is_in, fold_count.specs.FoldCounts.number_of}
use Rattle.fold_count.proofs.groups.set_in.Given as goal

abbrev pub invariant-loop-group : goal.invariant-loop-group
invariant-loop-group l = record {
  set : l.set ≡ number_of (λ group. is_in l.groups group) (take l.group-index l.own);
  bit : l.bit ≡ 2 ^ l.group-index;
  few : l.set < 2 ^ l.group-index;
}
