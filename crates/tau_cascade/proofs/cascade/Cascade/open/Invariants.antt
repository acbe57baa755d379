use Rattle.{std.proofs.Common.{false, ◌≡◌, [], length}, tally_base.specs.Settings.correlation_view, tau_cascade.specs.Levels.{Chain, spent}}
use Rattle.tau_cascade.proofs.cascade.Cascade.open.Given as goal

abbrev pub invariant-loop-level : goal.invariant-loop-level
invariant-loop-level l = record {
  count : length l.levels.items ≡ l.level;
  chain : Chain false (correlation_view l.set) 0 l.levels.items [];
  none : spent l.levels.items ≡ 0;
}
