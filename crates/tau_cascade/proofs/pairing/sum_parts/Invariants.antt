use Rattle.{std.proofs.Common.{ℕ, ◌-◌, ◌*◌, ◌<◌, ◌≤◌, length, get_or, map, take}, tau_cascade.specs.{Bins.raised, Dense.HavePaired}}
use Rattle.tau_cascade.proofs.pairing.sum_parts.Given as goal

abbrev pub invariant-parts : goal.invariant-parts
invariant-parts g l = record {
  behind : l.bins.start ≤ l.at;
  within : l.at ≤ length l.bins.list.now;
  few : (q : ℕ) → q < g.row.N → get_or l.sums q 0 ≤ 4190209 * (l.at - l.bins.start);
  sums : HavePaired g.row.N l.range l.initial.sums l.sums l.bins.start (take l.at (map (raised l.bins.levels) l.bins.list.now));
}

abbrev pub decreases-parts : goal.decreases-parts
decreases-parts g l = length l.bins.list.now - l.at
