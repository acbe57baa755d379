-- What a header reader stands for.
use Rattle.std.specs.Prelude.{ℕ, ◌≡◌, ◌≢◌, ◌+◌, ◌^◌, ◌<◌, ◌≤◌, List, [], ◌∷◌, ◌++◌, length, take, codes, Bool, true, false, ◌&&◌, nat_lt, nat_eq, Ok, Err, None, Some, Result}
use Rattle.std.specs.declared.option.Option.{Option}
use Rattle.{tally_base.specs.{declared.{fault.Fault.{Fault, TheVariants.TruncatedHeader}, header.Header.Header}, Faults.is_outside}, ptu_definitions.specs.declared.found.Found.Found}
use Rattle.ptu_definitions.specs.{TagList.{code_in, is_known, is_negative, body_size, is_end, Item, IsPreamble, IsFront, IsHeader}, Fields.{found_in, header_of, with_tag, version_in}}
use Rattle.{ptu_definitions.specs.Headers.{header_answer, Shows, seen, seen_preamble}, ptu_header.specs.{Kinds.{IsHead, code_of}, declared.reader.{HeaderReader.HeaderReader, Phase.Phase}}}
use Rattle.ptu_header.specs.declared.step.HeaderStep.{HeaderStep, TheVariants.{More, Preamble, Tag, Body, Done, Refused}}
use Rattle.ptu_header.specs.declared.reader.Phase.TheVariants as Phases

-- less than a preamble
pub record InPreamble (carried bytes : List ℕ) : Type 0 where
  pub bytes_are : bytes ≡ carried
  pub short : length carried < 16
  pub magic : 6 ≤ length carried → take 6 carried ≡ codes "PQTTTR"

-- a front, and what is carried after it
pub record InTag (carried : List ℕ) (tags : ℕ) (found : Found) (version bytes : List ℕ) : Type 0 where
  pub start : List ℕ
  pub items : List Item
  pub front : List ℕ
  pub is_front : IsFront start items front
  pub bytes_are : bytes ≡ front ++ carried
  pub tags_are : tags ≡ length items
  pub found_are : found ≡ found_in items
  pub version_is : version ≡ version_in start

-- a front, a tag and a part of its body, of which `left` bytes are to come
pub record InBody (left : ℕ) (last : Bool) (tags : ℕ) (found : Found) (version bytes : List ℕ) : Type 0 where
  pub start : List ℕ
  pub items : List Item
  pub front : List ℕ
  pub tag : List ℕ
  pub part : List ℕ
  pub is_front : IsFront start items front
  pub size : length tag ≡ 48
  pub known : is_known (code_in tag) ≡ true
  pub positive : is_negative tag ≡ false
  pub end_is : is_end tag ≡ last
  pub bytes_are : bytes ≡ front ++ (tag ++ part)
  pub left_is : length part + left ≡ body_size tag
  pub tags_are : tags ≡ length items + 1
  pub found_are : found ≡ with_tag (found_in items) tag
  pub version_is : version ≡ version_in start

-- a header
pub record AtEnd (found : Found) (version bytes : List ℕ) : Type 0 where
  pub start : List ℕ
  pub inner : List Item
  pub last : Item
  pub is_header : IsHeader start inner last bytes
  pub found_are : found ≡ found_in (inner ++ last ∷ [])
  pub version_is : version ≡ version_in start

-- The bytes as far as a header goes, or any that begin with those that were taken and call for the refusal.
abbrev pub Reads : Phase → List ℕ → ℕ → ℕ → Found → List ℕ → List ℕ → Type 0
Reads Phases.Preamble carried taken tags found version bytes = InPreamble carried bytes × (taken ≡ length bytes) × (tags ≡ 0) × (found ≡ found_in [])
Reads Phases.Tag carried taken tags found version bytes = InTag carried tags found version bytes × (length carried < 48) × (taken ≡ length bytes)
Reads (Phases.Body left last) carried taken tags found version bytes = InBody left last tags found version bytes × (0 < left) × (taken ≡ length bytes) × (carried ≡ [])
Reads Phases.End carried taken tags found version bytes = AtEnd found version bytes × (taken ≡ length bytes)
Reads (Phases.Refused fault) carried taken tags found version bytes = (taken ≤ length bytes) × Shows header_answer (take taken bytes) (Err fault)

-- The reader stands for these bytes: it was given them and none else.
abbrev pub HasRead : HeaderReader → List ℕ → Type 0
HasRead reader bytes = Reads reader.phase reader.carried.items reader.taken reader.tags reader.found reader.version bytes

-- how many bytes were taken
abbrev pub bytes_taken : HeaderReader → ℕ
bytes_taken reader = reader.taken

-- The header isn't at its end and not refused.
abbrev pub goes_on : Phase → Bool
goes_on Phases.Preamble = true
goes_on Phases.Tag = true
goes_on (Phases.Body left last) = true
goes_on Phases.End = false
goes_on (Phases.Refused fault) = false

-- The header isn't at its end, not refused and below the limit.
abbrev pub is_open : HeaderReader → Bool
is_open reader = goes_on reader.phase && nat_lt reader.taken (2 ^ 24)

-- The tag stands at the end of the bytes, after a front.
pub record EndsInTag (bytes tag : List ℕ) : Type 0 where
  pub start : List ℕ
  pub items : List Item
  pub front : List ℕ
  pub is_front : IsFront start items front
  pub size : length tag ≡ 48
  pub known : is_known (code_in tag) ≡ true
  pub positive : is_negative tag ≡ false
  pub bytes_are : bytes ≡ front ++ tag

-- The piece is a part of a body that goes on after the bytes, and its end where `last`.
pub record EndsInBody (bytes piece : List ℕ) (last : Bool) : Type 0 where
  pub items : List Item
  pub tag : List ℕ
  pub part : List ℕ
  pub before_are : seen bytes ≡ items ++ record { tag = tag; body = part } ∷ []
  pub now_are : seen (bytes ++ piece) ≡ items ++ record { tag = tag; body = part ++ piece } ∷ []
  pub preamble : seen_preamble (bytes ++ piece) ≡ seen_preamble bytes
  pub fits : length (part ++ piece) ≤ body_size tag
  pub last_is : last ≡ nat_eq (length (part ++ piece)) (body_size tag)

-- The piece completes neither the preamble nor a tag, and gives no byte of a body.
pub record Stays (bytes piece : List ℕ) : Type 0 where
  pub items : seen (bytes ++ piece) ≡ seen bytes
  pub preamble : seen_preamble (bytes ++ piece) ≡ seen_preamble bytes

-- The bytes taken call for the refusal by themselves, and those of the piece complete nothing and give no byte of a body.
pub record CallsFor (bytes piece : List ℕ) (taken : ℕ) (fault : Fault) : Type 0 where
  pub fits : taken ≤ length (bytes ++ piece)
  pub refused : Shows header_answer (take taken (bytes ++ piece)) (Err fault)
  pub items : seen (take taken (bytes ++ piece)) ≡ seen (take taken bytes)
  pub preamble : seen_preamble (take taken (bytes ++ piece)) ≡ seen_preamble (take taken bytes)

-- a tag with no byte of its body
abbrev pub bare : List ℕ → Item
bare tag = record { tag = tag; body = [] }

-- Whatever of the tag's bytes came last, the tag is what they add.
abbrev pub Adds : List ℕ → List ℕ → Type 0
Adds bytes tag =
    (before piece : List ℕ) → bytes ≡ before ++ piece → 0 < length piece → length piece ≤ 48
    → (seen bytes ≡ seen before ++ bare tag ∷ []) × (seen_preamble bytes ≡ seen_preamble before)

-- Whatever of a refused tag's bytes came last, they add nothing.
abbrev pub AddsNothing : List ℕ → Type 0
AddsNothing bytes = (before piece : List ℕ) → bytes ≡ before ++ piece → 0 < length piece → length piece ≤ 48 → Stays before piece

-- The step took at least one byte, and no more than the piece has.
abbrev pub Took : List ℕ → List ℕ → ℕ → Type 0
Took bytes piece used = (used ≤ length piece) × (0 < used)

-- What a step says of the bytes before it and of the piece.
abbrev pub Steps : List ℕ → List ℕ → HeaderReader → HeaderStep → Type 0
Steps bytes piece reader More =
    HasRead reader (bytes ++ piece) × (is_open reader ≡ true) × (header_answer (bytes ++ piece) ≡ Err (TruncatedHeader (length (bytes ++ piece))))
    × Stays bytes piece
Steps bytes piece reader (Preamble used magic version) =
    let now = bytes ++ take used piece in
    Took bytes piece used × HasRead reader now × IsPreamble now × (magic ≡ take 8 now) × (version ≡ version_in now) × (seen now ≡ []) × (seen_preamble now ≡ Some now)
Steps bytes piece reader (Tag used head kind) =
    let now = bytes ++ take used piece in
    Took bytes piece used × HasRead reader now
    × ((tag : List ℕ) × EndsInTag now tag × (seen now ≡ seen bytes ++ bare tag ∷ []) × IsHead tag head × (code_of kind ≡ code_in tag))
    × (seen_preamble now ≡ seen_preamble bytes)
Steps bytes piece reader (Body used last) = Took bytes piece used × HasRead reader (bytes ++ take used piece) × EndsInBody bytes (take used piece) last
Steps bytes piece reader (Done used header) = (used ≡ 0) × HasRead reader bytes × ((more : List ℕ) → header_answer (bytes ++ more) ≡ Ok (header, more))
Steps bytes piece reader (Refused fault) = HasRead reader (bytes ++ piece) × Shows header_answer (bytes ++ piece) (Err fault) × CallsFor bytes piece (bytes_taken reader) fault

-- What a whole tag gives, where the bytes end in it.
abbrev pub StepsWhole : List ℕ → ℕ → HeaderReader → HeaderStep → Type 0
StepsWhole bytes taken reader More = ⊥
StepsWhole bytes taken reader (Preamble used magic version) = ⊥
StepsWhole bytes taken reader (Tag used head kind) =
    (used ≡ taken) × HasRead reader bytes × ((tag : List ℕ) × EndsInTag bytes tag × Adds bytes tag × IsHead tag head × (code_of kind ≡ code_in tag))
StepsWhole bytes taken reader (Body used last) = ⊥
StepsWhole bytes taken reader (Done used header) = ⊥
StepsWhole bytes taken reader (Refused fault) = (reader.phase ≡ Phases.Refused fault) × Shows header_answer bytes (Err fault) × AddsNothing bytes

-- Where the bytes before this step have an answer, the step is that answer, whatever the piece.
abbrev pub IsDue : Result (Header × List ℕ) Fault → HeaderStep → Type 0
IsDue (Ok found) step = step ≡ Done 0 found.0
IsDue (Err fault) step = ((bytes : ℕ) → fault ≢ TruncatedHeader bytes) → step ≡ Refused fault

-- what a reader answers from now on, where that is settled
abbrev pub settled_at : Phase → Result Header Fault → Option HeaderStep
settled_at Phases.Preamble answer = None
settled_at Phases.Tag answer = None
settled_at (Phases.Body left last) answer = None
settled_at Phases.End (Ok header) = Some (Done 0 header)
settled_at Phases.End (Err fault) = None
settled_at (Phases.Refused fault) answer = Some (Refused fault)

abbrev pub settled : HeaderReader → Option HeaderStep
settled reader = settled_at reader.phase (header_of reader.version reader.found)

-- A reader that has answered More is open, and one that has answered Done or a refusal is settled on it.
abbrev pub IsEnd : HeaderReader → HeaderStep → Type 0
IsEnd reader More = is_open reader ≡ true
IsEnd reader (Preamble used magic version) = Unit {0}
IsEnd reader (Tag used head kind) = Unit {0}
IsEnd reader (Body used last) = Unit {0}
IsEnd reader (Done used header) = settled reader ≡ Some (Done used header)
IsEnd reader (Refused fault) = settled reader ≡ Some (Refused fault)

-- A settled reader answers the same and isn't changed.
abbrev pub Repeats : HeaderReader → HeaderReader → HeaderStep → Type 0
Repeats old new step = (answer : HeaderStep) → settled old ≡ Some answer → (step ≡ answer) × (new ≡ old)

-- A refusal is one that the bytes call for.
abbrev pub IsInside : HeaderStep → Type 0
IsInside More = Unit {0}
IsInside (Preamble used magic version) = Unit {0}
IsInside (Tag used head kind) = Unit {0}
IsInside (Body used last) = Unit {0}
IsInside (Done used header) = Unit {0}
IsInside (Refused fault) = is_outside fault ≡ false

-- how many of the piece's bytes a step took
abbrev pub Takes : ℕ → ℕ → ℕ → HeaderStep → Type 0
Takes before now size More = now ≡ before + size
Takes before now size (Preamble used magic version) = (used ≤ size) × (now ≡ before + used)
Takes before now size (Tag used head kind) = (used ≤ size) × (now ≡ before + used)
Takes before now size (Body used last) = (used ≤ size) × (now ≡ before + used)
Takes before now size (Done used header) = (used ≡ 0) × (now ≡ before)
Takes before now size (Refused fault) = before ≤ now

-- A whole tag gives its own step or a refusal.
abbrev pub TookTag : ℕ → HeaderStep → Type 0
TookTag taken More = ⊥
TookTag taken (Preamble used magic version) = ⊥
TookTag taken (Tag used head kind) = used ≡ taken
TookTag taken (Body used last) = ⊥
TookTag taken (Done used header) = ⊥
TookTag taken (Refused fault) = Unit {0}

-- What a reader answers to a whole tag, of whose bytes it took the last ones.
pub record TakesTag (old new : HeaderReader) (used : ℕ) (answer : HeaderStep) : Type 0 where
  pub step : (bytes : List ℕ) → InTag old.carried.items old.tags old.found old.version bytes
      → old.taken ≡ length bytes → StepsWhole bytes used new answer
  pub taken : new.taken ≡ old.taken
  pub going : TookTag used answer
  pub ended : IsEnd new answer

-- What a reader that goes on answers to a piece.
pub record Feeds (old : HeaderReader) (piece : List ℕ) (new : HeaderReader) (step : HeaderStep) : Type 0 where
  pub steps : (bytes : List ℕ) → HasRead old bytes → Steps bytes piece new step
  pub room : Takes (bytes_taken old) (bytes_taken new) (length piece) step
  pub ended : IsEnd new step
