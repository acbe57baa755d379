use Rattle.{std.proofs.Common.{◌≡◌, None}, record_stream.specs.{Feeding.Follows, Standing.{how_of, given_by, greatest_of, refused_with}}}
use Rattle.file_tests.proofs.settled.feed_pieces.Given as goal

abbrev pub invariant-loop-piece : goal.invariant-loop-piece
invariant-loop-piece g l = refused_with l.stream ≡ None → Follows g.S.EventTaker (how_of l.stream).mode (given_by l.stream) (greatest_of l.stream) l.taker
