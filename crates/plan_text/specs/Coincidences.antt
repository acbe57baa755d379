-- What the tables of coincidences say, and the rules on them.
use Rattle.std.specs.Prelude.{ℕ, ◌^◌, Bool, [], ◌∷◌, codes, Option, None, Some}
use Rattle.{toml.specs.Data.{Data, get}, tally_base.specs.Settings.{PartSettings, PartSettings.CoincidenceSettings}, toml_rules.specs.{Rules.each, Values.{list_at, has_keys, number_in}}}
use Rattle.plan_text.specs.{Groups.group_number, Kind.Kind}

-- the settings of these numbers, where each keeps its rule
abbrev pub coincidence_of : Option ℕ → Option ℕ → Option ℕ → Option ℕ → Option PartSettings
coincidence_of (Some first) (Some second) (Some reach) (Some width) = Some (CoincidenceSettings (record { first = first; second = second; reach = reach; width = width }))
coincidence_of _ _ _ _ = None

-- the settings that a table of the document gives
unfoldable pub coincidence : Data → Data → Option PartSettings
coincidence d set = coincidence_of (group_number d (get (codes "first") set)) (group_number d (get (codes "second") set)) (number_in 1 (2 ^ 20) (get (codes "reach") set)) (number_in 1 (2 ^ 21) (get (codes "width") set))

-- exactly the keys first, second, reach and width
unfoldable pub has_coincidence_keys : Data → Bool
has_coincidence_keys = has_keys (codes "first" ∷ codes "second" ∷ codes "reach" ∷ codes "width" ∷ []) []

-- coincidences in a plan
abbrev pub coincidence_kind : Kind
coincidence_kind = record {
  key = codes "coincidence";
  most = 16;
  before = λ d. each 17 has_coincidence_keys (list_at (codes "coincidence") d) ∷ [];
  last = 18;
  read = coincidence;
  greatest = CoincidenceSettings (record { first = 1; second = 1; reach = 2 ^ 20; width = 1 });
}
