-- A file of a header of two tags and of words.
use Rattle.std.specs.{Prelude.{ℕ, ◌-◌, List, [], ◌∷◌, ◌++◌, None, length, codes, replicate}, Int.{to_le_bytes, w32, w64}}
use Rattle.tally_base.specs.declared.{header.{Header.Header, Mode.{Mode, TheVariants.{T2, T3}}, RecordType.{RecordType, TheVariants.{HydraHarp2T2, HydraHarp2T3}}}, event.EventKind.EventKind}
use Rattle.{tally_base.specs.{declared.event.Event.Event, RecordTypes.code_of}, ptu_definitions.specs.Fields.int8}

-- the record type that is written in each mode
abbrev pub short_type : Mode → RecordType
short_type T2 = HydraHarp2T2
short_type T3 = HydraHarp2T3

-- a tag that is no element of an array: its name with NULs up to 32 bytes, the index -1, its type's code and its value
abbrev pub tag_bytes : List ℕ → ℕ → ℕ → List ℕ
tag_bytes name code value = name ++ replicate (32 - length name) 0 ++ (255 ∷ 255 ∷ 255 ∷ 255 ∷ []) ++ to_le_bytes w32 code ++ to_le_bytes w64 value

-- the type of a tag without a value
abbrev pub empty8 : ℕ
empty8 = 0xFFFF0008

-- the header: magic, version, record type and end
unfoldable pub short_header : Mode → List ℕ
short_header mode =
    codes "PQTTTR" ++ (0 ∷ 0 ∷ []) ++ codes "1.0.00" ++ (0 ∷ 0 ∷ [])
    ++ tag_bytes (codes "TTResultFormat_TTTRRecType") int8 (code_of (short_type mode)) ++ tag_bytes (codes "Header_End") empty8 0

-- each word's four bytes, the lowest first
abbrev pub bytes_in : List ℕ → List ℕ
bytes_in [] = []
bytes_in (word ∷ words) = to_le_bytes w32 word ++ bytes_in words

-- the file of these words
unfoldable pub minimal_file : Mode → List ℕ → List ℕ
minimal_file mode words = short_header mode ++ bytes_in words

-- the fields of its header
abbrev pub short_fields : Mode → Header
short_fields mode = record { record_type = short_type mode; count = None; global = None; resolution = None; version = codes "1.0.00" ++ (0 ∷ 0 ∷ []) }

-- Events without their places in a file.

-- the kind and the time of an event
pub record Timed : Type 0 where
  pub kind : EventKind
  pub time : ℕ

abbrev pub timed : Event → Timed
timed e = record { kind = e.kind; time = e.time }
