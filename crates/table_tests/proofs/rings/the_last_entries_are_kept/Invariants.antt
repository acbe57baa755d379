use Rattle.std.{proofs.Common.{◌≡◌, ◌<◌}, specs.List.AllByRecursion}
use Rattle.table_tests.proofs.rings.the_last_entries_are_kept.Given as goal

abbrev pub invariant-loop-before : goal.invariant-loop-before
invariant-loop-before l = record {
  reach : l.ring.reach ≡ 3;
  below : AllByRecursion (λ e. e.index < l.next) l.ring.entries;
}
