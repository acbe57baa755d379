-- How many events may overtake one that is put in its place.
use Rattle.std.specs.Prelude.{ℕ, codes, Option, unwrap_or}
use Rattle.{toml.specs.Data.{Data, get}, toml_rules.specs.Values.number_or}

-- the number that the document says, or none: None where it breaks its rule
unfoldable pub settle : Data → Option ℕ
settle d = number_or 0 0 64 (get (codes "settle") d)

-- the number of a plan
unfoldable pub settle_or_none : Data → ℕ
settle_or_none d = unwrap_or (settle d) 0
