-- The fields of a header: each the value of the first item of its name and type.
use Rattle.std.specs.{Prelude.{ℕ, ◌==◌, ◌&&◌, List, [], ◌∷◌, take, drop, codes, if◌then◌else◌, None, Some, ℤ, Result, Ok, Err}, declared.option.Option.Option, Str.bytes_eq, Int.{w64, cast_signed}}
use Rattle.tally_base.specs.{declared.{fault.Fault.{Fault, TheVariants.{NoRecordType, UnknownRecordType}}, header.{Header.Header, RecordType.RecordType}}, RecordTypes.type_with}
use Rattle.ptu_definitions.specs.{declared.found.Found.Found, TagList.{name_in, code_in, value_in, Item}}

-- the value of a tag that has this name and type
unfoldable pub value_under : List ℕ → ℕ → List ℕ → Option ℕ
value_under name code tag = if bytes_eq (name_in tag) name && code_in tag == code then Some (value_in tag) else None

abbrev pub or_else : Option ℕ → Option ℕ → Option ℕ
or_else None later = later
or_else (Some first) later = Some first

abbrev pub first_value : List ℕ → ℕ → List Item → Option ℕ
first_value name code [] = None
first_value name code (item ∷ items) = or_else (value_under name code item.tag) (first_value name code items)

abbrev pub int8 : ℕ
int8 = 0x10000008

abbrev pub float8 : ℕ
float8 = 0x20000008

unfoldable pub found_in : List Item → Found
found_in items = record {
  record_type = first_value (codes "TTResultFormat_TTTRRecType") int8 items;
  count = first_value (codes "TTResult_NumberOfRecords") int8 items;
  global = first_value (codes "MeasDesc_GlobalResolution") float8 items;
  resolution = first_value (codes "MeasDesc_Resolution") float8 items;
}

abbrev pub signed_count : Option ℕ → Option ℤ
signed_count None = None
signed_count (Some value) = Some (cast_signed w64 value)

abbrev pub with_type : List ℕ → Found → ℕ → Option RecordType → Result Header Fault
with_type version found value None = Err (UnknownRecordType (cast_signed w64 value))
with_type version found value (Some record_type) =
    Ok (record { record_type = record_type; count = signed_count found.count; global = found.global; resolution = found.resolution; version = version })

abbrev pub with_value : List ℕ → Found → Option ℕ → Result Header Fault
with_value version found None = Err NoRecordType
with_value version found (Some value) = with_type version found value (type_with value)

-- the header, or what refuses it
unfoldable pub header_of : List ℕ → Found → Result Header Fault
header_of version found = with_value version found found.record_type

-- the version text in the preamble
abbrev pub version_in : List ℕ → List ℕ
version_in bytes = take 8 (drop 8 bytes)

-- what was found, with one more tag after
abbrev pub with_tag : Found → List ℕ → Found
with_tag found tag = record {
  record_type = or_else found.record_type (value_under (codes "TTResultFormat_TTTRRecType") int8 tag);
  count = or_else found.count (value_under (codes "TTResult_NumberOfRecords") int8 tag);
  global = or_else found.global (value_under (codes "MeasDesc_GlobalResolution") float8 tag);
  resolution = or_else found.resolution (value_under (codes "MeasDesc_Resolution") float8 tag);
}
