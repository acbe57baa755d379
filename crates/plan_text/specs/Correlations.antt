-- What the tables of correlations say, and the rules on them.
use Rattle.std.specs.Prelude.{ℕ, ◌%◌, ◌==◌, Bool, [], ◌∷◌, codes, Option, None, Some, option_and_then, if◌then◌else◌}
use Rattle.{toml.specs.Data.{Data, get}, tally_base.specs.Settings.{PartSettings, PartSettings.CorrelationSettings}, toml_rules.specs.{Rules.each, Values.{list_at, has_keys, number_in}}}
use Rattle.plan_text.specs.{Groups.group_number, Kind.Kind}

-- a number that is even
abbrev pub if_even : ℕ → Option ℕ
if_even n = if n % 2 == 0 then Some n else None

-- the greatest lag of a correlation, an even number
unfoldable pub lags : Data → Option ℕ
lags set = option_and_then if_even (number_in 2 128 (get (codes "lags") set))

-- the settings of these numbers, where each keeps its rule
abbrev pub correlation_of : Option ℕ → Option ℕ → Option ℕ → Option ℕ → Option PartSettings
correlation_of (Some first) (Some second) (Some lags) (Some levels) = Some (CorrelationSettings (record { first = first; second = second; lags = lags; levels = levels }))
correlation_of _ _ _ _ = None

-- the settings that a table of the document gives
unfoldable pub correlation : Data → Data → Option PartSettings
correlation d set = correlation_of (group_number d (get (codes "first") set)) (group_number d (get (codes "second") set)) (lags set) (number_in 1 40 (get (codes "levels") set))

-- exactly the keys first, second, lags and levels
unfoldable pub has_correlation_keys : Data → Bool
has_correlation_keys = has_keys (codes "first" ∷ codes "second" ∷ codes "lags" ∷ codes "levels" ∷ []) []

-- correlations in a plan
abbrev pub correlation_kind : Kind
correlation_kind = record {
  key = codes "correlation";
  most = 16;
  before = λ d. each 21 has_correlation_keys (list_at (codes "correlation") d) ∷ [];
  last = 22;
  read = correlation;
  greatest = CorrelationSettings (record { first = 1; second = 1; lags = 128; levels = 40 });
}
