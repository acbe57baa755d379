-- The photons of a group in a block.
use Rattle.std.specs.{Prelude.{ℕ, Bool, List, ◌&&◌, nat_lt, map}, List.{filter, range_with_len}}
use Rattle.tally_base.specs.{Events.is_in, Columns.{groups_at, code_at, mark_at}, declared.block.Block.Block}

-- whether the event at a place is a photon of the group
abbrev pub has_photon : ℕ → {N : ℕ} → Block N → ℕ → Bool
has_photon group b i = is_in (groups_at b i) group && nat_lt (code_at b i) 256

-- the marks of the photons of the group among the first so many events
abbrev pub photon_marks : ℕ → {N : ℕ} → Block N → ℕ → List ℕ
photon_marks group b n = map (mark_at b) (filter (has_photon group b) (range_with_len 0 n))
