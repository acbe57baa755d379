-- What the tables of histograms say, and the rules on them.
use Rattle.std.specs.Prelude.{ℕ, Bool, [], ◌∷◌, codes, Option, None, Some}
use Rattle.{toml.specs.Data.{Data, get}, tally_base.specs.Settings.{PartSettings, PartSettings.HistSettings}, toml_rules.specs.{Rules.each, Values.{list_at, has_keys, number_in}}}
use Rattle.plan_text.specs.{Groups.group_number, Kind.Kind}

-- the settings of these numbers, where each keeps its rule
abbrev pub hist_of : Option ℕ → Option ℕ → Option ℕ → Option PartSettings
hist_of (Some group) (Some width) (Some bins) = Some (HistSettings (record { group = group; width = width; bins = bins }))
hist_of _ _ _ = None

-- the settings that a table of the document gives
unfoldable pub histogram : Data → Data → Option PartSettings
histogram d hist = hist_of (group_number d (get (codes "group") hist)) (number_in 1 32768 (get (codes "width") hist)) (number_in 1 32768 (get (codes "bins") hist))

-- exactly the keys group, width and bins
unfoldable pub has_histogram_keys : Data → Bool
has_histogram_keys = has_keys (codes "group" ∷ codes "width" ∷ codes "bins" ∷ []) []

-- histograms in a plan
abbrev pub histogram_kind : Kind
histogram_kind = record {
  key = codes "histogram";
  most = 32;
  before = λ d. each 11 has_histogram_keys (list_at (codes "histogram") d) ∷ [];
  last = 12;
  read = histogram;
  greatest = HistSettings (record { group = 1; width = 1; bins = 32768 });
}
