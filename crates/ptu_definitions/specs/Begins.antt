-- What stands at the front of a file, and what of a file's bytes is shown.
use Rattle.std.specs.Prelude.{ℕ, ◌≡◌, ◌≤◌, ◌⊎◌, List, ◌++◌, length, true, false, Some}
use Rattle.ptu_definitions.specs.{TagList.{code_in, is_known, is_negative, body_size, Item, IsFront, GoesOn}, Headers.{head_of, seen, seen_preamble}}

-- a preamble, items after it, and their bytes
pub record Front : Type 0 where
  pub start : List ℕ
  pub items : List Item
  pub bytes : List ℕ

-- The file begins with this front.
pub record BeginsWith (file : List ℕ) (front : Front) : Type 0 where
  pub is_front : IsFront front.start front.items front.bytes
  pub rest : List ℕ
  pub parts : file ≡ front.bytes ++ rest

-- It has this preamble, and begins these items.
pub record IsFrontOf (front : Front) (start : List ℕ) (items : List Item) : Type 0 where
  pub same_start : front.start ≡ start
  pub more : List Item
  pub goes_on : items ≡ front.items ++ more

-- Of two fronts of one file one goes on as the other.
pub record Nest (one other : Front) : Type 0 where
  pub same_start : one.start ≡ other.start
  pub goes_on : GoesOn one.items one.bytes other.items other.bytes ⊎ GoesOn other.items other.bytes one.items one.bytes

-- The item is a good tag and a first part of its body.
pub record IsBegun (item : Item) : Type 0 where
  pub size : length item.tag ≡ 48
  pub known : is_known (code_in item.tag) ≡ true
  pub positive : is_negative item.tag ≡ false
  pub part : length item.body ≤ body_size item.tag

-- The bytes show this preamble and these items.
pub record ShowsItems (bytes start : List ℕ) (items : List Item) : Type 0 where
  pub preamble : seen_preamble bytes ≡ Some start
  pub items_are : seen bytes ≡ items

-- A file that begins with these bytes and goes on so shows no more than they do.
pub record ShowsNoMore (bytes more : List ℕ) : Type 0 where
  pub preamble : seen_preamble (head_of (bytes ++ more)) ≡ seen_preamble bytes
  pub items : seen (head_of (bytes ++ more)) ≡ seen bytes
