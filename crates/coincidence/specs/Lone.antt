-- Photons that are alone in their reach.
use Rattle.std.specs.{Prelude.{◌≡◌, ℕ, ◌+◌, ◌-◌, ◌*◌, ◌<◌, Bool, true, ◌&&◌, ◌||◌, ◌++◌, nat_lt, Option, List, [], if◌then◌else◌}, List.AllByRecursion}
use Rattle.tally_base.specs.{Events.is_in, Settings.CoincidenceView, Tally.History, declared.block.Block.Block, Columns.{code_at, groups_at, time_at, gathered, item, rows}}
use Rattle.{lag_ring.specs.{declared.ring.Entry.Entry, Cells.Cells, Ring.Ring}, coincidence.specs.{declared.pairing.{Bin.Bin, Pairing.Pairing}, Pairs.photons_of_groups, Pairing.{Came, Gathered}}}
use Rattle.coincidence.specs.StandsFor.{CanTake}

-- whether a row has a photon of a group
abbrev pub has_photon : {N : ℕ} → Block N → ℕ → ℕ → Bool
has_photon b at group = is_in (groups_at b at) group && nat_lt (code_at b at) 256

-- the photon in a row, as a bin
abbrev pub bin_at : {N : ℕ} → CoincidenceView → Block N → ℕ → Bin
bin_at set b at = record {
  weights = record { index = time_at b at; a = (if has_photon b at set.first then 1 else 0); b = (if has_photon b at set.second then 1 else 0) };
  both = (if has_photon b at set.first && has_photon b at set.second then 1 else 0);
}

-- the photons of a bin make no pair with one another, and none of the entries is in reach
abbrev pub IsAlone : CoincidenceView → List Entry → Bin → Type 0
IsAlone set es bin = (bin.both ≡ bin.weights.a * bin.weights.b) × AllByRecursion (λ e. e.index + set.reach < bin.weights.index) es

-- a row has a photon of either group, out of reach of the row before
abbrev pub IsLone : {N : ℕ} → CoincidenceView → Block N → ℕ → Type 0
IsLone set b at = ((has_photon b at set.first || has_photon b at set.second) ≡ true) × (time_at b (at - 1) + set.reach < time_at b at)

-- Where the photons of the first so many rows came, after any others, those of the rows up to another came then, and no pair.
abbrev pub Passes : {N : ℕ} → CoincidenceView → Block N → Option Bin → Option Bin → Ring → Ring → ℕ → ℕ → Type 0
Passes set b waiting result old new at to =
    (p : Pairing) (cells : Cells) (h : History) → CanTake set (Came set p) (gathered b) h
    → Gathered set waiting old cells [] (photons_of_groups set (h ++ rows (item b) at))
    → Gathered set result new cells [] (photons_of_groups set (h ++ rows (item b) to))
