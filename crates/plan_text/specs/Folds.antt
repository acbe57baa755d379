-- What the tables of folds say, and the rules on them.
use Rattle.std.specs.Prelude.{ℕ, ◌+◌, ◌^◌, ◌&&◌, Bool, nat_le, List, [], ◌∷◌, length, codes, Option, None, Some, option_map, option_and_then, if◌then◌else◌}
use Rattle.{toml.specs.Data.{Data, Items, as_array, get}, tally_base.specs.Settings.{PartSettings, PartSettings.FoldSettings}, toml_rules.specs.{Rules.each, Values.{list_of, list_at, has_keys}}}
use Rattle.{toml_rules.specs.Values.{integer_in, number_in}, plan_text.specs.{Groups.groups, Kind.Kind}}

-- integers from low to the greatest, each greater than the one before
abbrev pub numbers_from : ℕ → ℕ → List Data → Option (List ℕ)
numbers_from most low [] = Some []
numbers_from most low (d ∷ ds) = option_and_then (λ n. option_map (λ numbers. n ∷ numbers) (numbers_from most (n + 1) ds)) (integer_in low most d)

-- 1 to 6 such integers, from 1 on
abbrev pub numbers_among : ℕ → List Data → Option (List ℕ)
numbers_among most ds = if nat_le 1 (length ds) && nat_le (length ds) 6 then numbers_from most 1 ds else None

-- the same of what may be an array
abbrev pub numbers_in : ℕ → Option Items → Option (List ℕ)
numbers_in most None = None
numbers_in most (Some items) = numbers_among most (list_of items)

-- the numbers of the groups of a fold, which are groups of the document
unfoldable pub numbers : Data → Data → Option (List ℕ)
numbers d set = numbers_in (length (groups d)) (option_and_then as_array (get (codes "groups") set))

-- the settings of these groups and this window, where both keep their rule
abbrev pub fold_of : Option (List ℕ) → Option ℕ → Option PartSettings
fold_of (Some groups) (Some window) = Some (FoldSettings (record { groups = groups; window = window }))
fold_of _ _ = None

-- the settings that a table of the document gives
unfoldable pub fold_settings : Data → Data → Option PartSettings
fold_settings d set = fold_of (numbers d set) (number_in 1 (2 ^ 20) (get (codes "window") set))

-- exactly the keys groups and window
unfoldable pub has_fold_keys : Data → Bool
has_fold_keys = has_keys (codes "groups" ∷ codes "window" ∷ []) []

-- folds in a plan
abbrev pub fold_kind : Kind
fold_kind = record {
  key = codes "fold";
  most = 8;
  before = λ d. each 30 has_fold_keys (list_at (codes "fold") d) ∷ [];
  last = 31;
  read = fold_settings;
  greatest = FoldSettings (record { groups = 1 ∷ 2 ∷ 3 ∷ 4 ∷ 5 ∷ 6 ∷ []; window = 2 ^ 20 });
}
