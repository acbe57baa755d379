use Rattle.{std.proofs.Common.{◌≡◌, ℕ, ◌+◌, ◌*◌, ◌-◌, ◌≤◌, ◌++◌, length, get_or, map, take, drop}, tau_cascade.specs.Dense.{laid, placed, IsLaid}}
use Rattle.tau_cascade.specs.Bins.{raised}
use Rattle.tau_cascade.proofs.laid.lay_all.Given as goal

abbrev pub invariant-loop-i : goal.invariant-loop-i
invariant-loop-i l = record {
  are : IsLaid l.window l.reach l.first l.laying (take l.i (map (raised l.bins.levels) l.bins.list.now));
  at_places : laid l.reach l.first 0 (take l.i (map (raised l.bins.levels) l.bins.list.now))
      ≡ laid l.reach l.first 0 (take l.bins.start (map (raised l.bins.levels) l.bins.list.now)) ++ placed (drop l.bins.start (take l.i l.bins.list.now)) l.places;
  near : (k : ℕ) → get_or l.places k 0 ≤ l.laying.place;
  place : l.laying.place ≤ l.lags + l.reach * (l.i - l.bins.start);
  long : length l.places ≡ 250;
}
