use Rattle.{std.proofs.Common.{◌≡◌, ◌≤◌}, tally_base.specs.{Columns.{event_at, rows, count, gathered}, Tally.floor_after}}
use Rattle.tally_base.proofs.block.Block.floor_after.Given as goal

abbrev pub invariant-back : goal.invariant-back
invariant-back g l = record {
  few : l.at ≤ count l.self;
  same : floor_after l.strict l.floor (gathered l.self) ≡ floor_after l.strict l.floor (rows (event_at l.self) l.at);
}

abbrev pub decreases-back : goal.decreases-back
decreases-back g l = l.at
