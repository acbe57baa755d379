-- What printing the body of a tag in pieces leaves.
use Rattle.std.specs.Prelude.{ℕ, ◌≡◌, List, [], ◌++◌, codes, Bool, if◌then◌else◌, ◌+◌, ◌∷◌, length, true, false, Ok, Err}
use Rattle.{bench_io.specs.{Sinks.SinkState, Texts.{WroteText, PutText, LostText}}, ptu_header.specs.{declared.kind.TagKind.TagKind, ReadHeader.{HasRead, bytes_taken, is_open}}}
use Rattle.{list_out.specs.{HeaderText.{body_text, kind_with, header_text}, Lines.HasPut}, tally_base.specs.{declared.header.Header.Header, Faults.is_outside}, ptu_definitions.specs.TagList.code_in}
use Rattle.{ptu_definitions.specs.{TagList.Item, Headers.{header_answer, Shows, seen}}, command_work.specs.Outcomes.IsCut, file_work.specs.declared.print.HeaderPrinter.HeaderPrinter}
use Rattle.file_work.specs.declared.print.Printed.{Printed, TheVariants.{More, Done, Refused}}

-- ## The text of a body

-- What bytes add to the text of a body was put after what a block holds; was cut short.
abbrev pub PutsBody : TagKind → List ℕ → List ℕ → SinkState → SinkState → List ℕ → List ℕ → Type 0
PutsBody kind part bytes = PutText (body_text kind part) (body_text kind (part ++ bytes))

abbrev pub CutsBody : TagKind → List ℕ → List ℕ → SinkState → SinkState → List ℕ → Type 0
CutsBody kind part bytes = LostText (body_text kind part) (body_text kind (part ++ bytes))

-- the end of the line of a body, where the body is whole
abbrev pub end_line : Bool → List ℕ
end_line last = if last then codes "\n" else []

-- What printing a header in pieces leaves.

-- The printer was given these bytes, and knows how the body goes on that they end in.
pub record Prints (printer : HeaderPrinter) (bytes : List ℕ) : Type 0 where
  pub read : HasRead printer.reader bytes
  pub taken : bytes_taken printer.reader ≡ length bytes
  pub body : (items : List Item) (tag part : List ℕ) → seen bytes ≡ items ++ record { tag = tag; body = part } ∷ [] → HasPut printer.body (kind_with (code_in tag)) part

-- what the bytes before and a piece say, however the reader leaves the piece
abbrev pub Leaves : List ℕ → List ℕ → HeaderPrinter → Printed → Type 0
Leaves bytes piece printer More = Prints printer (bytes ++ piece) × (is_open printer.reader ≡ true) × IsCut (bytes ++ piece)
Leaves bytes piece printer Done = (header : Header) × (behind : List ℕ) × ((more : List ℕ) → header_answer (bytes ++ piece ++ more) ≡ Ok (header, behind ++ more))
Leaves bytes piece printer (Refused fault) = Shows header_answer (bytes ++ piece) (Err fault)

-- What a piece after some bytes adds to the text of the header was put after what a block holds; was written; was cut short.
abbrev pub PutsHeader : List ℕ → List ℕ → SinkState → SinkState → List ℕ → List ℕ → Type 0
PutsHeader bytes piece = PutText (header_text bytes) (header_text (bytes ++ piece))

abbrev pub AppendsHeader : List ℕ → List ℕ → SinkState → SinkState → Type 0
AppendsHeader bytes piece = WroteText (header_text bytes) (header_text (bytes ++ piece))

abbrev pub CutsHeader : List ℕ → List ℕ → SinkState → SinkState → List ℕ → Type 0
CutsHeader bytes piece = LostText (header_text bytes) (header_text (bytes ++ piece))

-- A printer that goes on has taken the whole piece. A refusal is one that the bytes call for.
abbrev pub EndsPiece : HeaderPrinter → HeaderPrinter → List ℕ → Printed → Type 0
EndsPiece old new piece More = bytes_taken new.reader ≡ bytes_taken old.reader + length piece
EndsPiece old new piece Done = Unit {0}
EndsPiece old new piece (Refused fault) = is_outside fault ≡ false
