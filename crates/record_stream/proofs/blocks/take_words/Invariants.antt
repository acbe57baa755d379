use Rattle.{std.proofs.Common.{◌≡◌, ◌++◌, List, ℕ, Ok, length}, ptu_definitions.specs.Words.numbers, record_stream.specs.Settling.Walks}
use Rattle.record_stream.proofs.blocks.take_words.Given as goal

abbrev pub invariant-many : goal.invariant-many
invariant-many g l =
    (seen : List (List ℕ)) × (l.words ≡ seen ++ l.rest)
    × Walks g.W.EventTaker {X = Unit {0}} l.fn.walk l.walk l.fn.settle l.settle l.fn.taker l.taker (numbers seen) (Ok tt)

abbrev pub decreases-many : goal.decreases-many
decreases-many g l = length l.rest
