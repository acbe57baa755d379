-- What is read in the values of a document.
use Rattle.std.specs.{Prelude.{ℕ, pos, Bool, true, false, ◌&&◌, ◌||◌, nat_le, List, [], ◌∷◌, Option, None, Some, is_some, option_and_then, if◌then◌else◌}, List.list_all, Str.bytes_eq}
use Rattle.toml.specs.Data.{Data, integer, table, Items, no_items, item, Members, no_members, member, get, as_array, as_table, as_str, as_bool}

-- the members of an array
abbrev pub list_of : Items → List Data
list_of no_items = []
list_of (item d ds) = d ∷ list_of ds

-- the members of what may be an array
abbrev pub members_of : Option Items → List Data
members_of None = []
members_of (Some ds) = list_of ds

-- the members of the array at a key; none, where the key has no array
abbrev pub list_at : List ℕ → Data → List Data
list_at key d = members_of (option_and_then as_array (get key d))

abbrev pub is_table : Data → Bool
is_table (table ms) = true
is_table _ = false

-- an array whose members are all tables
abbrev pub are_tables : Option Items → Bool
are_tables None = false
are_tables (Some ds) = list_all is_table (list_of ds)

-- an array of tables, or nothing at all
abbrev pub may_be_tables : Option Data → Bool
may_be_tables None = true
may_be_tables (Some d) = are_tables (as_array d)

-- a key is one of these
abbrev pub is_one_of : List (List ℕ) → List ℕ → Bool
is_one_of [] key = false
is_one_of (k ∷ keys) key = bytes_eq k key || is_one_of keys key

-- each key is needed or among the others
abbrev pub members_within : List (List ℕ) → List (List ℕ) → Members → Bool
members_within needed other no_members = true
members_within needed other (member k d ms) = (is_one_of needed k || is_one_of other k) && members_within needed other ms

-- each of the keys stands in the table
abbrev pub has_each : List (List ℕ) → Data → Bool
has_each [] d = true
has_each (key ∷ keys) d = is_some (get key d) && has_each keys d

-- the value is a table, with these members
abbrev pub members_are : List (List ℕ) → List (List ℕ) → Data → Option Members → Bool
members_are needed other d None = false
members_are needed other d (Some ms) = has_each needed d && members_within needed other ms

-- a table that has each of the needed keys, and besides them only some of the others
abbrev pub has_keys : List (List ℕ) → List (List ℕ) → Data → Bool
has_keys needed other d = members_are needed other d (as_table d)

-- the integer, where it is one from least to greatest
abbrev pub integer_in : ℕ → ℕ → Data → Option ℕ
integer_in least greatest (integer (pos n)) = if nat_le least n && nat_le n greatest then Some n else None
integer_in least greatest _ = None

-- the same of a value that must be there
abbrev pub number_in : ℕ → ℕ → Option Data → Option ℕ
number_in least greatest None = None
number_in least greatest (Some d) = integer_in least greatest d

-- the same of a value that may be left out
abbrev pub number_or : ℕ → ℕ → ℕ → Option Data → Option ℕ
number_or default least greatest None = Some default
number_or default least greatest (Some d) = integer_in least greatest d

-- the truth value of a value that may be left out
abbrev pub truth_or : Bool → Option Data → Option Bool
truth_or default None = Some default
truth_or default (Some d) = as_bool d

-- which of two words a value is, if it is a text: false is the first, true the second
abbrev pub second_word : List ℕ → List ℕ → Option (List ℕ) → Option Bool
second_word first second None = None
second_word first second (Some word) = if bytes_eq word first then Some false else (if bytes_eq word second then Some true else None)

-- the same of a value that may be left out, where the first word is meant
abbrev pub second_of : List ℕ → List ℕ → Option Data → Option Bool
second_of first second None = Some false
second_of first second (Some d) = second_word first second (as_str d)
