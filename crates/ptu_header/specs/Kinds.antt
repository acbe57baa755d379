-- The table of types, and the parts of a tag.
use Rattle.std.specs.{Prelude.{ℕ, ◌≡◌, List}, Int.{w32, cast_signed}}
use Rattle.{ptu_definitions.specs.TagList.{ident_in, index_in, code_in, value_in}, ptu_header.specs.declared.kind.TagKind.{TagKind, TheVariants.{Empty8, Bool8, Int8, BitSet64, Color8, Float8}}}
use Rattle.ptu_header.specs.declared.{kind.TagKind.TheVariants.{TDateTime, Float8Array, AnsiString, WideString, BinaryBlob}, head.TagHead.TagHead}

-- the code of a type
abbrev pub code_of : TagKind → ℕ
code_of Empty8 = 0xFFFF0008
code_of Bool8 = 0x00000008
code_of Int8 = 0x10000008
code_of BitSet64 = 0x11000008
code_of Color8 = 0x12000008
code_of Float8 = 0x20000008
code_of TDateTime = 0x21000008
code_of Float8Array = 0x2001FFFF
code_of AnsiString = 0x4001FFFF
code_of WideString = 0x4002FFFF
code_of BinaryBlob = 0xFFFFFFFF

-- the parts of the 48 bytes of a tag
pub record IsHead (tag : List ℕ) (head : TagHead) : Type 0 where
  pub ident : head.ident ≡ ident_in tag
  pub index : head.index ≡ cast_signed w32 (index_in tag)
  pub code : head.code ≡ code_in tag
  pub value : head.value ≡ value_in tag
