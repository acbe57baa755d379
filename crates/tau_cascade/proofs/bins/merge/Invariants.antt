use Rattle.{std.proofs.Common.{◌≡◌, ◌<◌, ◌++◌, length, map, take, drop}, tau_cascade.specs.Bins.{raised, merged, merged_all}}
use Rattle.tau_cascade.proofs.bins.merge.Given as goal

abbrev pub invariant-loop-at : goal.invariant-loop-at
invariant-loop-at l = record {
  bins : take l.closed l.bins ++ merged l.open (map (raised l.levels) (drop l.at l.bins)) ≡ merged_all (map (raised l.levels) l.initial.bins);
  few : l.closed < l.at;
}
