-- What the header of a file is printed as.
use Rattle.std.specs.{Prelude.{ℕ, ◌==◌, ◌&&◌, not, nat_le, List, [], ◌∷◌, ◌++◌, length, take, drop, take_while, codes, None, Some, if◌then◌else◌}, declared.option.Option.Option, List.flat_map}
use Rattle.std.specs.{Fmt.signed_decimal, Int.{w32, w64, cast_signed}}
use Rattle.{tally_base.specs.Hexadecimal.hexadecimal, ptu_definitions.specs.{TagList.{ident_in, index_in, code_in, value_in, name_of, body_size, Item}, Headers.{head_of, seen, seen_preamble}}}
use Rattle.ptu_header.specs.declared.{head.TagHead.TagHead, kind.TagKind.{TagKind, TheVariants.{Empty8, Bool8, Int8, BitSet64, Color8, Float8, TDateTime, Float8Array, AnsiString, WideString}}}
use Rattle.ptu_header.specs.declared.kind.TagKind.TheVariants.{BinaryBlob}

-- A byte of a text: those from `low` to 7E stand as they are, but for the backslash. Every other byte is `\x` and two digits.
abbrev pub shown_byte : ℕ → ℕ → List ℕ
shown_byte low byte = if nat_le low byte && nat_le byte 0x7E && not (byte == 0x5C) then byte ∷ [] else codes "\\x" ++ hexadecimal 2 byte

-- an identifier, up to its first NUL
abbrev pub name_text : List ℕ → List ℕ
name_text ident = flat_map (shown_byte 0x21) (name_of ident)

abbrev pub type_name : TagKind → List ℕ
type_name Empty8 = codes "tyEmpty8"
type_name Bool8 = codes "tyBool8"
type_name Int8 = codes "tyInt8"
type_name BitSet64 = codes "tyBitSet64"
type_name Color8 = codes "tyColor8"
type_name Float8 = codes "tyFloat8"
type_name TDateTime = codes "tyTDateTime"
type_name Float8Array = codes "tyFloat8Array"
type_name AnsiString = codes "tyAnsiString"
type_name WideString = codes "tyWideString"
type_name BinaryBlob = codes "tyBinaryBlob"

-- the value of a tag, which is the length of the body where there is one
abbrev pub value_text : TagKind → ℕ → List ℕ
value_text Empty8 value = codes "-"
value_text Bool8 value = if value == 0 then codes "false" else codes "true"
value_text Int8 value = signed_decimal (cast_signed w64 value)
value_text BitSet64 value = hexadecimal 16 value
value_text Color8 value = hexadecimal 16 value
value_text Float8 value = hexadecimal 16 value
value_text TDateTime value = hexadecimal 16 value
value_text Float8Array value = signed_decimal (cast_signed w64 value) ++ codes " "
value_text AnsiString value = signed_decimal (cast_signed w64 value) ++ codes " "
value_text WideString value = signed_decimal (cast_signed w64 value) ++ codes " "
value_text BinaryBlob value = signed_decimal (cast_signed w64 value) ++ codes " "

-- the line of a tag up to its body
unfoldable pub head_text : TagHead → TagKind → List ℕ
head_text head kind =
    codes "tag " ++ name_text head.ident ++ codes " " ++ signed_decimal head.index ++ codes " " ++ type_name kind ++ codes " " ++ value_text kind head.value

-- A text ends before its first NUL. The bytes of any other body are pairs of digits.
unfoldable pub body_text : TagKind → List ℕ → List ℕ
body_text AnsiString body = flat_map (shown_byte 0x20) (take_while (λ byte. not (byte == 0)) body)
body_text _ body = flat_map (hexadecimal 2) body

-- the type of a code of the table
unfoldable pub kind_with : ℕ → TagKind
kind_with code =
    if code == 0xFFFF0008 then Empty8
    else if code == 0x00000008 then Bool8
    else if code == 0x10000008 then Int8
    else if code == 0x11000008 then BitSet64
    else if code == 0x12000008 then Color8
    else if code == 0x20000008 then Float8
    else if code == 0x21000008 then TDateTime
    else if code == 0x2001FFFF then Float8Array
    else if code == 0x4001FFFF then AnsiString
    else if code == 0x4002FFFF then WideString
    else BinaryBlob

abbrev pub head_in : List ℕ → TagHead
head_in tag = record { ident = ident_in tag; index = cast_signed w32 (index_in tag); code = code_in tag; value = value_in tag }

-- the end of a line, once the body is whole
abbrev pub end_text : Item → List ℕ
end_text item = if length item.body == body_size item.tag then codes "\n" else []

-- the end of the line of a tag that no body follows
abbrev pub bare_end : List ℕ → List ℕ
bare_end tag = if body_size tag == 0 then codes "\n" else []

-- an item, or the front of one: a tag and as much of its body as is there
unfoldable pub item_text : Item → List ℕ
item_text item = head_text (head_in item.tag) (kind_with (code_in item.tag)) ++ body_text (kind_with (code_in item.tag)) item.body ++ end_text item

-- the magic and the version, eight bytes each
abbrev pub preamble_lines_of : List ℕ → List ℕ → List ℕ
preamble_lines_of magic version = codes "magic " ++ flat_map (hexadecimal 2) magic ++ codes "\nversion " ++ flat_map (hexadecimal 2) version ++ codes "\n"

unfoldable pub preamble_text : List ℕ → List ℕ
preamble_text bytes = preamble_lines_of (take 8 bytes) (take 8 (drop 8 bytes))

abbrev pub preamble_part : Option (List ℕ) → List ℕ
preamble_part None = []
preamble_part (Some preamble) = preamble_text preamble

-- What bytes show of a header: its preamble and its items, the last of them as far as it is there.
unfoldable pub shown_text : List ℕ → List ℕ
shown_text bytes = preamble_part (seen_preamble bytes) ++ flat_map item_text (seen bytes)

-- What the first bytes of a file show of its header, up to its end or to what refuses it.
unfoldable pub header_text : List ℕ → List ℕ
header_text file = shown_text (head_of file)
