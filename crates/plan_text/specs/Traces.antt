-- What the tables of traces say, and the rules on them.
use Rattle.std.specs.Prelude.{ℕ, ◌^◌, Bool, [], ◌∷◌, codes, Option, None, Some}
use Rattle.{toml.specs.Data.{Data, get}, tally_base.specs.{Settings.{PartSettings, PartSettings.TraceSettings}, Limits.wrap_limit}, toml_rules.specs.{Rules.each, Values.{list_at, has_keys}}}
use Rattle.{toml_rules.specs.Values.{number_in, number_or}, plan_text.specs.{Groups.group_number, Kind.Kind}}

-- the settings of these numbers, where each keeps its rule
abbrev pub trace_of : Option ℕ → Option ℕ → Option ℕ → Option ℕ → Option PartSettings
trace_of (Some group) (Some begin) (Some width) (Some bins) = Some (TraceSettings (record { group = group; origin = begin; width = width; bins = bins }))
trace_of _ _ _ _ = None

-- the time at which a trace begins
unfoldable pub origin : Data → Option ℕ
origin trace = number_or 0 0 wrap_limit (get (codes "origin") trace)

-- the settings that a table of the document gives
unfoldable pub trace : Data → Data → Option PartSettings
trace d set = trace_of (group_number d (get (codes "group") set)) (origin set) (number_in 1 wrap_limit (get (codes "width") set)) (number_in 1 (2 ^ 20) (get (codes "bins") set))

-- the keys group, width and bins, and no other key but origin
unfoldable pub has_trace_keys : Data → Bool
has_trace_keys = has_keys (codes "group" ∷ codes "width" ∷ codes "bins" ∷ []) (codes "origin" ∷ [])

-- traces in a plan
abbrev pub trace_kind : Kind
trace_kind = record {
  key = codes "trace";
  most = 32;
  before = λ d. each 13 has_trace_keys (list_at (codes "trace") d) ∷ [];
  last = 14;
  read = trace;
  greatest = TraceSettings (record { group = 1; origin = 0; width = 1; bins = 2 ^ 20 });
}
