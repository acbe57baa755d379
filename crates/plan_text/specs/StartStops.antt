-- What the tables of start-stops say, and the rules on them.
use Rattle.std.specs.Prelude.{ℕ, Bool, [], ◌∷◌, codes, Option, None, Some}
use Rattle.{toml.specs.Data.{Data, get}, tally_base.specs.{Settings.{PartSettings, PartSettings.StartStopSettings}, Limits.wrap_limit}, toml_rules.specs.{Rules.each, Values.{list_at, has_keys}}}
use Rattle.{toml_rules.specs.Values.number_in, plan_text.specs.{Groups.group_number, Kind.Kind}}

-- the settings of these numbers, where each keeps its rule
abbrev pub startstop_of : Option ℕ → Option ℕ → Option ℕ → Option ℕ → Option PartSettings
startstop_of (Some start) (Some stop) (Some width) (Some bins) = Some (StartStopSettings (record { start = start; stop = stop; width = width; bins = bins }))
startstop_of _ _ _ _ = None

-- the settings that a table of the document gives
unfoldable pub startstop : Data → Data → Option PartSettings
startstop d set = startstop_of (group_number d (get (codes "start") set)) (group_number d (get (codes "stop") set)) (number_in 1 wrap_limit (get (codes "width") set)) (number_in 1 32768 (get (codes "bins") set))

-- exactly the keys start, stop, width and bins
unfoldable pub has_startstop_keys : Data → Bool
has_startstop_keys = has_keys (codes "start" ∷ codes "stop" ∷ codes "width" ∷ codes "bins" ∷ []) []

-- start-stops in a plan
abbrev pub startstop_kind : Kind
startstop_kind = record {
  key = codes "startstop";
  most = 16;
  before = λ d. each 15 has_startstop_keys (list_at (codes "startstop") d) ∷ [];
  last = 16;
  read = startstop;
  greatest = StartStopSettings (record { start = 1; stop = 1; width = 1; bins = 32768 });
}
