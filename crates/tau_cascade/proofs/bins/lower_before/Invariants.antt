use Rattle.{std.proofs.Common.{◌≡◌, map, take, drop}, tau_cascade.specs.Bins.raised}
use Rattle.tau_cascade.proofs.bins.lower_before.Given as goal

abbrev pub invariant-loop-i : goal.invariant-loop-i
invariant-loop-i l = record {
  bins : map (raised l.levels) (take l.i (drop l.start l.list)) ≡ take l.i l.entries;
  behind : drop l.from l.list ≡ drop l.from l.initial.list;
}
