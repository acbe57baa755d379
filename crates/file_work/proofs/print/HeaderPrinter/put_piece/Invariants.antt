use Rattle.{std.proofs.Common.{◌≡◌, ◌-◌, List, ℕ, length, take}, ptu_header.specs.ReadHeader.bytes_taken, file_work.specs.BodyPieces.{Prints, PutsHeader}}
use Rattle.command_work.proofs.Pieces.{Walked}
use Rattle.file_work.proofs.print.HeaderPrinter.put_piece.Given as goal

-- the text of the first `used` bytes of the piece is put
abbrev pub invariant-steps : goal.invariant-steps
invariant-steps g l =
    let state = g.O.Sink.state in
    record {
      walked : Walked Prints (λ printer. bytes_taken printer.reader) l.fn.self l.self l.piece l.used;
      text : (bytes : List ℕ) → Prints l.fn.self bytes → PutsHeader bytes (take l.used l.piece) (state l.initial.out) (state l.out) l.fn.block l.block;
      kept : (state l.out).faults ≡ (state l.initial.out).faults;
    }

abbrev pub decreases-steps : goal.decreases-steps
decreases-steps g l = length l.piece - l.used
