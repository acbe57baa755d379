-- The commands of the program.
use Rattle.std.specs.{Prelude.{ℕ, ◌-◌, ◌^◌, ◌&&◌, Bool, nat_le, List, [], ◌∷◌, length, None, Some, codes, if◌then◌else◌}, Str.{bytes_eq, all_ascii_digits, Parse.digits_value}}
use Rattle.std.specs.declared.option.Option.{Option}
use Rattle.ptu_made.specs.Generator.{photon_limit}

-- what the words ask for
pub data Request : Type 0 where
  Count : (file : List ℕ) → Request
  Header : (file : List ℕ) → Request
  Events : (file : List ℕ) → Request
  Run : (plan file : List ℕ) → Request
  Trace : (plan file : List ℕ) → Request
  Pick : (plan : List ℕ) (group : ℕ) (file : List ℕ) → Request
  Demo : (seed count : ℕ) → Request

-- one to twenty digits
abbrev pub is_numeral : List ℕ → Bool
is_numeral word = nat_le 1 (length word) && nat_le (length word) 20 && all_ascii_digits word

-- the number that a word writes, where it is no greater than `most`
unfoldable pub number_in : ℕ → List ℕ → Option ℕ
number_in most word = if is_numeral word && nat_le (digits_value 10 word) most then Some (digits_value 10 word) else None

abbrev pub demo_of : Option ℕ → Option ℕ → Option Request
demo_of (Some seed) (Some count) = Some (Demo seed count)
demo_of (Some seed) None = None
demo_of None count = None

abbrev pub pick_of : List ℕ → Option ℕ → List ℕ → Option Request
pick_of plan (Some group) file = Some (Pick plan group file)
pick_of plan None file = None

-- the words after the program's name
abbrev pub request_of : List (List ℕ) → Option Request
request_of (word ∷ file ∷ []) =
    if bytes_eq word (codes "count") then Some (Count file)
    else if bytes_eq word (codes "header") then Some (Header file)
    else if bytes_eq word (codes "events") then Some (Events file)
    else None
request_of (word ∷ first ∷ second ∷ []) =
    if bytes_eq word (codes "run") then Some (Run first second)
    else if bytes_eq word (codes "trace") then Some (Trace first second)
    else if bytes_eq word (codes "demo") then demo_of (number_in (2 ^ 64 - 1) first) (number_in photon_limit second)
    else None
request_of (word ∷ plan ∷ group ∷ file ∷ []) =
    if bytes_eq word (codes "pick") then pick_of plan (number_in (2 ^ 64 - 1) group) file
    else None
request_of other = None
