use Rattle.{std.proofs.Common.{◌≡◌, ◌++◌, List, ℕ, take}, ptu_header.specs.declared.kind.TagKind.TagKind, list_out.specs.Lines.HasPut}
use Rattle.file_work.specs.BodyPieces.{PutsBody}
use Rattle.file_work.proofs.print.put_body.Given as goal

-- the bytes so far are put
abbrev pub invariant-loop-byte : goal.invariant-loop-byte
invariant-loop-byte g l =
    let state = g.O.Sink.state in
    record {
      taken : (kind : TagKind) (part : List ℕ) → HasPut l.fn.text kind part → HasPut l.text kind (part ++ take l.byte-index l.bytes);
      all : (kind : TagKind) (part : List ℕ) → HasPut l.fn.text kind part
          → PutsBody kind part (take l.byte-index l.bytes) (state l.initial.out) (state l.out) l.fn.block l.block;
      kept : (state l.out).faults ≡ (state l.initial.out).faults;
    }
