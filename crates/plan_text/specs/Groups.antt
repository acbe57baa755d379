-- What the tables of groups say, and the rules on them.
use Rattle.std.specs.Prelude.{ℕ, ◌+◌, ◌^◌, Bool, ◌&&◌, nat_le, List, [], ◌∷◌, length, codes, Option, None, Some, is_some, option_map, option_and_then, if◌then◌else◌}
use Rattle.{toml.specs.Data.{Data, Items, as_array, get}, tally_base.specs.Settings.GroupView, toml_rules.specs.{Rules.{Rule, each}, Values.{list_of, list_at, has_keys, integer_in, number_in}}}
use Rattle.plan_text.specs.{Kind.TableList, Version.is_second}

-- the tables of groups
abbrev pub groups : Data → List Data
groups = list_at (codes "group")

-- ## Inputs

-- the bit set of integers from low to 64, each greater than the one before
abbrev pub inputs_from : ℕ → List Data → Option ℕ
inputs_from low [] = Some 0
inputs_from low (d ∷ ds) = option_and_then (λ n. option_map (λ set. 2 ^ n + set) (inputs_from (n + 1) ds)) (integer_in low 64 d)

-- the bit set of 1 to 65 such integers, from 0 on
abbrev pub inputs_among : List Data → Option ℕ
inputs_among ds = if nat_le 1 (length ds) && nat_le (length ds) 65 then inputs_from 0 ds else None

-- the same of what may be an array
abbrev pub inputs_in : Option Items → Option ℕ
inputs_in None = None
inputs_in (Some items) = inputs_among (list_of items)

-- the inputs of a group
unfoldable pub inputs : Data → Option ℕ
inputs group = inputs_in (option_and_then as_array (get (codes "inputs") group))

-- ## The gates

-- a range of dtimes that is not empty
abbrev pub range_of : Option ℕ → Option ℕ → Option (ℕ × ℕ)
range_of (Some lo) (Some hi) = if nat_le (lo + 1) hi then Some (lo, hi) else None
range_of _ _ = None

-- such a range from two integers to 32,768, the first from low on
abbrev pub range_in : ℕ → List Data → Option (ℕ × ℕ)
range_in low (lo ∷ hi ∷ []) = range_of (integer_in low 32768 lo) (integer_in 0 32768 hi)
range_in low _ = None

-- the same of what may be an array
abbrev pub range_among : ℕ → Option Items → Option (ℕ × ℕ)
range_among low None = None
range_among low (Some items) = range_in low (list_of items)

-- such ranges, each from the end of the one before on
abbrev pub ranges_from : ℕ → List Data → Option (List (ℕ × ℕ))
ranges_from low [] = Some []
ranges_from low (d ∷ ds) = option_and_then (λ (range : ℕ × ℕ). option_map (λ ranges. range ∷ ranges) (ranges_from range.1 ds)) (range_among low (as_array d))

-- 1 to 8 such ranges
abbrev pub ranges_in : List Data → Option (List (ℕ × ℕ))
ranges_in ds = if nat_le 1 (length ds) && nat_le (length ds) 8 then ranges_from 0 ds else None

-- the same of what may be an array
abbrev pub ranges_among : Option Items → Option (List (ℕ × ℕ))
ranges_among None = None
ranges_among (Some items) = ranges_in (list_of items)

-- the only gate of a group, of a value that may be left out
abbrev pub one_gate : Option Data → Option (List (ℕ × ℕ))
one_gate None = Some []
one_gate (Some d) = option_map (λ range. range ∷ []) (range_among 0 (as_array d))

-- the gates of a group, of a value that may be left out
abbrev pub many_gates : Option Data → Option (List (ℕ × ℕ))
many_gates None = Some []
many_gates (Some d) = ranges_among (as_array d)

-- The gates of a group in a document, which stand at a key for each version: None where they break their rule, and none where the group has none.
unfoldable pub gates : Data → Data → Option (List (ℕ × ℕ))
gates d group = if is_second d then many_gates (get (codes "gates") group) else one_gate (get (codes "gate") group)

-- ## The group

-- the group of its inputs and its gates, where both keep their rules
abbrev pub group_of : Option ℕ → Option (List (ℕ × ℕ)) → Option GroupView
group_of (Some set) (Some ranges) = Some (record { inputs = set; gates = ranges })
group_of _ _ = None

-- the group that a table of the document gives
unfoldable pub group : Data → Data → Option GroupView
group d one = group_of (inputs one) (gates d one)

-- the key inputs, and no other key but that of gates in the version
unfoldable pub has_group_keys : Data → Data → Bool
has_group_keys d = has_keys (codes "inputs" ∷ []) (if is_second d then codes "gates" ∷ [] else codes "gate" ∷ [])

-- the rules on groups
unfoldable pub group_rules : Data → List Rule
group_rules d =
    each 8 (has_group_keys d) (groups d)
    ∷ each 9 (λ group. is_some (inputs group)) (groups d)
    ∷ each 10 (λ group. is_some (gates d group)) (groups d)
    ∷ []

-- the groups in a plan
abbrev pub group_list : TableList
group_list = record { key = codes "group"; most = 64; rules = group_rules }

-- the number of a group of the document
abbrev pub group_number : Data → Option Data → Option ℕ
group_number d value = number_in 1 (length (groups d)) value
