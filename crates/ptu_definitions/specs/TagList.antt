-- The tag list of a file: fronts, items and headers, as whole lists of bytes.
use Rattle.std.specs.{Prelude.{ℕ, ◌+◌, ◌*◌, ◌^◌, ◌==◌, ◌||◌, ◌&&◌, not, nat_le, List, [], ◌∷◌, take, drop, take_while, codes, Bool, if◌then◌else◌, ◌≡◌, ◌++◌, length, true, false}, Str.bytes_eq}

-- The parts of the 48 bytes of a tag.

-- a little-endian number
abbrev pub little : List ℕ → ℕ
little [] = 0
little (byte ∷ bytes) = byte + 256 * little bytes

abbrev pub ident_in : List ℕ → List ℕ
ident_in tag = take 32 tag

-- a name: an identifier up to its first NUL, or all of it
abbrev pub name_of : List ℕ → List ℕ
name_of ident = take_while (λ byte. not (byte == 0)) ident

unfoldable pub name_in : List ℕ → List ℕ
name_in tag = name_of (ident_in tag)

unfoldable pub index_in : List ℕ → ℕ
index_in tag = little (take 4 (drop 32 tag))

unfoldable pub code_in : List ℕ → ℕ
code_in tag = little (take 4 (drop 36 tag))

unfoldable pub value_in : List ℕ → ℕ
value_in tag = little (take 8 (drop 40 tag))

-- the types that have a body
unfoldable pub has_body : ℕ → Bool
has_body code = code == 0x2001FFFF || code == 0x4001FFFF || code == 0x4002FFFF || code == 0xFFFFFFFF

unfoldable pub is_known : ℕ → Bool
is_known code =
    code == 0xFFFF0008 || code == 8 || code == 0x10000008 || code == 0x11000008 || code == 0x12000008 || code == 0x20000008 || code == 0x21000008
    || has_body code

-- the value is a length below 0
abbrev pub is_negative : List ℕ → Bool
is_negative tag = has_body (code_in tag) && nat_le (2 ^ 63) (value_in tag)

-- how many bytes follow the tag
abbrev pub body_size : List ℕ → ℕ
body_size tag = if has_body (code_in tag) then value_in tag else 0

abbrev pub is_end : List ℕ → Bool
is_end tag = bytes_eq (name_in tag) (codes "Header_End")

-- The tag list of a file: fronts, items and headers, as whole lists of bytes.

pub record Item : Type 0 where
  pub tag : List ℕ
  pub body : List ℕ

-- An item is 48 bytes with a type of the table, and as many body bytes as its value says, which isn't negative.
pub record IsItem (item : Item) : Type 0 where
  pub size : length item.tag ≡ 48
  pub known : is_known (code_in item.tag) ≡ true
  pub positive : is_negative item.tag ≡ false
  pub whole : length item.body ≡ body_size item.tag

-- items of which none is named Header_End
abbrev pub AreInner : List Item → Type 0
AreInner [] = Unit {0}
AreInner (item ∷ items) = IsItem item × (is_end item.tag ≡ false) × AreInner items

abbrev pub bytes_of : List Item → List ℕ
bytes_of [] = []
bytes_of (item ∷ items) = (item.tag ++ item.body) ++ bytes_of items

pub record IsPreamble (preamble : List ℕ) : Type 0 where
  pub size : length preamble ≡ 16
  pub magic : take 6 preamble ≡ codes "PQTTTR"

-- A front is a preamble and whole items, none of them named Header_End.
pub record IsFront (start : List ℕ) (items : List Item) (front : List ℕ) : Type 0 where
  pub preamble : IsPreamble start
  pub inner : AreInner items
  pub bytes : front ≡ start ++ bytes_of items

-- A header is a front and one item named Header_End.
pub record IsHeader (start : List ℕ) (items : List Item) (last : Item) (header : List ℕ) : Type 0 where
  pub front : IsFront start items (start ++ bytes_of items)
  pub item : IsItem last
  pub end : is_end last.tag ≡ true
  pub bytes : header ≡ start ++ bytes_of items ++ (last.tag ++ last.body)

-- A list of items and its bytes go on as another: the other has more items after.
pub record GoesOn (items : List Item) (bytes : List ℕ) (more_items : List Item) (more_bytes : List ℕ) : Type 0 where
  pub more : List Item
  pub items_are : more_items ≡ items ++ more
  pub bytes_are : more_bytes ≡ bytes ++ bytes_of more
