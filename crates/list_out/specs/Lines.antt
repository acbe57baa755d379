-- Lines of a word and a value.
use Rattle.std.specs.{Prelude.{ℕ, ℤ, List, ◌++◌, None, Some, codes, decimal, ◌≡◌, ◌≢◌, ◌==◌, not, Bool, true, false}, Fmt.signed_decimal, declared.option.Option.Option, List.{list_all, flat_map}}
use Rattle.{tally_base.specs.{Hexadecimal.hexadecimal, declared.event.{Event.Event, EventKind.{EventKind, TheVariants.{Photon, Marker}}}}, ptu_header.specs.declared.kind.TagKind.TagKind}
use Rattle.{ptu_header.specs.declared.kind.TagKind.TheVariants.AnsiString, list_out.specs.declared.body.{Printing.{Printing, TheVariants.{Digits, Text, Nothing}}, BodyText.BodyText}}
use Rattle.ptu_definitions.specs.{Kept.Marked, Streams.{StreamSettings, given}}

abbrev pub line : List ℕ → List ℕ → List ℕ
line word value = word ++ codes " " ++ value ++ codes "\n"

-- the number of records that a header announces
abbrev pub announced : Option ℤ → List ℕ
announced None = codes "-"
announced (Some count) = signed_decimal count

-- the 64 bits of a number that a header gives
abbrev pub bits_text : Option ℕ → List ℕ
bits_text None = codes "-"
bits_text (Some bits) = hexadecimal 16 bits

abbrev pub time_text : Option ℕ → List ℕ
time_text None = codes "-"
time_text (Some time) = decimal time

-- What a body's text stands for.

-- no byte is a NUL
abbrev pub has_no_nul : List ℕ → Bool
has_no_nul body = list_all (λ byte. not (byte == 0)) body

-- The body is of this type, and its bytes so far are these.
abbrev pub Puts : Printing → TagKind → List ℕ → Type 0
Puts Digits kind body = kind ≢ AnsiString
Puts Text kind body = (kind ≡ AnsiString) × (has_no_nul body ≡ true)
Puts Nothing kind body = (kind ≡ AnsiString) × (has_no_nul body ≡ false)

abbrev pub HasPut : BodyText → TagKind → List ℕ → Type 0
HasPut text kind body = Puts text.printing kind body

-- The lines of events.

-- what an event is, with its time
abbrev pub kind_text : EventKind → ℕ → List ℕ
kind_text (Photon input dtime) time = codes " photon " ++ decimal input ++ codes " " ++ decimal time ++ codes " " ++ decimal dtime
kind_text (Marker bits) time = codes " marker " ++ decimal bits ++ codes " " ++ decimal time

abbrev pub line_end : Bool → List ℕ
line_end true = codes " late\n"
line_end false = codes "\n"

-- the line of an event, by whether it is late
unfoldable pub event_text : Event → Bool → List ℕ
event_text event late = decimal event.place ++ kind_text event.kind event.time ++ line_end late

-- the lines of events with their marks
abbrev pub events_text : Marked → List ℕ
events_text events = flat_map (λ x. event_text x.0 x.1) events

-- the lines of the events before the first refusal of these words
abbrev pub lines_of : StreamSettings → List ℕ → List ℕ
lines_of how words = events_text (given how words)
