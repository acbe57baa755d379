use Rattle.{std.proofs.Common.{◌-◌, length}, ptu_header.specs.ReadHeader.{HasRead, bytes_taken}, command_work.proofs.Pieces.Walked}
use Rattle.command_work.proofs.header.feed_piece.Given as goal

-- the reader was given the first `used` bytes of the piece
abbrev pub invariant-steps : goal.invariant-steps
invariant-steps l = Walked HasRead bytes_taken l.fn.reader l.reader l.piece l.used

abbrev pub decreases-steps : goal.decreases-steps
decreases-steps l = length l.piece - l.used
