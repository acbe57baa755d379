-- The start that is open.
use Rattle.std.specs.{Prelude.{ℕ, Option, None, Some, if◌then◌else◌, Bool}, Option.option_map_or}
use Rattle.coincidence.specs.declared.start.Start.{Start}

abbrev pub start_in : Start → Option ℕ
start_in start = if start.open then Some start.since else None

-- the time of the last photon of the start group, or 0
abbrev pub since_in : Start → ℕ
since_in start = start.since

-- What a photon ends.

-- one where it stops and an interval is open
abbrev pub ended : Bool → Option ℕ → ℕ
ended stops start = option_map_or (λ since. if stops then 1 else 0) start 0
