use Rattle.{std.proofs.Common.{Ok, take}, ptu_definitions.specs.Words.numbers, record_stream.specs.Settling.Walks}
use Rattle.record_stream.proofs.walk.Walk.words.Given as goal

abbrev pub invariant-loop-word : goal.invariant-loop-word
invariant-loop-word g l = Walks g.S.EventTaker {X = Unit {0}} l.fn.self l.at l.fn.settle l.settle l.fn.taker l.taker (numbers (take l.word-index l.words)) (Ok tt)
