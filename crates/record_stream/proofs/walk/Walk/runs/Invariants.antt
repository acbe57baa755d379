use Rattle.{std.proofs.Common.{◌≤◌, ◌-◌, Ok, take}, ptu_definitions.specs.Words.numbers, record_stream.specs.{Runs.LetsSkip, Settling.Walks}}
use Rattle.record_stream.proofs.walk.Walk.runs.Given as goal

abbrev pub invariant-runs : goal.invariant-runs
invariant-runs g l = record {
  inside : l.next ≤ 64;
  lets : LetsSkip l.at (64 - l.next);
  walks : Walks g.S.EventTaker {X = Unit {0}} l.fn.self l.at l.fn.settle l.settle l.fn.taker l.taker (numbers (take l.next l.words)) (Ok tt);
}

abbrev pub decreases-runs : goal.decreases-runs
decreases-runs g l = 64 - l.next
