use Rattle.{std.{proofs.Common.{◌≡◌, ◌+◌, ◌-◌, ◌≤◌, ltb, ◌++◌, map, take}, specs.List.{range_with_len, filter}}, tau_cascade.specs.Grid.{bin_at, photons}}
use Rattle.tau_cascade.proofs.grid.Grid.put_bins.Given as goal

abbrev pub invariant-loop-place : goal.invariant-loop-place
invariant-loop-place l = record {
  bins : take l.end l.list ≡ take l.count l.fn.list ++ filter (λ e. ltb 0 (photons e)) (map (bin_at l.self) (range_with_len l.start (l.place - l.start)));
  few : l.end ≤ l.count + (l.place - l.start);
  within : l.place - l.start ≤ l.self.len - l.start;
}
