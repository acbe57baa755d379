-- The version of a plan.
use Rattle.std.specs.Prelude.{ℕ, ◌==◌, Bool, false, codes, Option, None, Some}
use Rattle.{toml.specs.Data.{Data, get}, toml_rules.specs.Values.number_or}

-- the version that the document names, or the first
unfoldable pub version : Data → Option ℕ
version d = number_or 1 1 2 (get (codes "version") d)

abbrev pub is_two : Option ℕ → Bool
is_two (Some n) = n == 2
is_two None = false

-- the plan is one of version 2
unfoldable pub is_second : Data → Bool
is_second d = is_two (version d)
