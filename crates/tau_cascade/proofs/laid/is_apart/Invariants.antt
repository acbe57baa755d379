use Rattle.{std.proofs.Common.{◌≡◌, ◌+◌, ◌-◌, ◌/◌, ◌^◌, get_or, map, take}, tau_cascade.{specs.Bins.{IsSpaced, raised}, proofs.Close.no_bin}}
use Rattle.tau_cascade.proofs.laid.is_apart.Given as goal

abbrev pub invariant-loop-at : goal.invariant-loop-at
invariant-loop-at l = record {
  last : l.was ≡ (get_or l.list (l.at - 1) no_bin).index / 2 ^ l.levels;
  apart : IsSpaced (l.lags + 1) (take l.at (map (raised l.levels) l.list));
}
