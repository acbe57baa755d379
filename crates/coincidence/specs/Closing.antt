-- Bins that are closed together.
use Rattle.std.specs.{Prelude.{ℕ, ◌+◌, ◌-◌, ◌^◌, ◌<◌, ◌≤◌, ◌==◌, ◌/◌, ◌*◌, nat_lt, nat_le, min, slice_index, List, filter, length, map, sum_by, if◌then◌else◌}, List.{AllByRecursion, range_with_len}}
use Rattle.std.proofs.Props.{props}
use Rattle.{tally_base.specs.Settings.{CoincidenceView, coincidence_view}, lag_ring.specs.{Cells.Cells, declared.{ring.Entry.Entry, window.Side.{Side, TheVariants.{First, Second}}}, Bytes.weight_of}}
use Rattle.{lag_ring.{specs.{Bytes.{weight_before, IsLight, behind}, Ring.IsRising}, proofs.Rising.rising-prop}, coincidence.specs.declared.{pairing.Bin.Bin, places.{Lags.Lags, Places.Places}}}
use Rattle.coincidence.specs.Pairing.{Counts, lag_pair, other_side, shifted_by}

-- the entries of bins
abbrev pub weights_in : List Bin → List Entry
weights_in bins = map (λ bin. bin.weights) bins

-- the pairs of the photons of later entries with those of the entry so many ticks before, where the cell is that of their difference
abbrev pub lag_pairs : Side → CoincidenceView → ℕ → List Entry → List Entry → ℕ → ℕ
lag_pairs direction set c es later lag =
    if shifted_by direction set.reach lag / set.width == c
    then sum_by (λ e. weight_before direction lag e.index es * weight_of (other_side direction) e) later else 0

-- the sum of a lag, where it stands in the order of falling lags from the one so many above the least, and the cell is that of its difference
abbrev pub strip_pairs : Side → CoincidenceView → ℕ → ℕ → List ℕ → ℕ → ℕ
strip_pairs direction set c least sums lag = if shifted_by direction set.reach lag / set.width == c then slice_index sums (least + 256 - lag) else 0

-- how many lags a window serves, after so many
abbrev pub lags_of : CoincidenceView → ℕ → ℕ
lags_of set base = min (set.reach - base) 4096

-- the pairs of photons at some spots with what stands so many ticks before in a window, where the cell is that of the difference
abbrev pub window_pairs : Side → CoincidenceView → ℕ → ℕ → List ℕ → List ℕ → ℕ → ℕ
window_pairs direction set c base window spots lag =
    if shifted_by direction set.reach lag / set.width == c
    then sum_by (behind window (base + 4096 - lag)) spots else 0

-- a number of a row, where the first is for the difference so many, and the cell is that of its difference
abbrev pub row_pairs : CoincidenceView → ℕ → ℕ → List ℕ → ℕ → ℕ
row_pairs set c from row q = if (from + q) / set.width == c then slice_index row q else 0

abbrev pub row_sum : CoincidenceView → ℕ → ℕ → List ℕ → ℕ
row_sum set c from row = sum_by (row_pairs set c from row) (range_with_len 0 (length row))

-- the sums of the lags in reach above the least, of 256 at most
abbrev pub strip_sum : Side → CoincidenceView → ℕ → ℕ → List ℕ → ℕ
strip_sum direction set c least sums = sum_by (strip_pairs direction set c least sums) (range_with_len (least + 1) (min (set.reach - least) 256))

abbrev pub window_sum : Side → CoincidenceView → ℕ → ℕ → List ℕ → List ℕ → ℕ
window_sum direction set c base window spots = sum_by (window_pairs direction set c base window spots) (range_with_len (base + 1) (lags_of set base))

-- the pairs of the photons of later entries with those before them, at so many lags after others
abbrev pub lag_sum : Side → CoincidenceView → ℕ → ℕ → ℕ → List Entry → List Entry → ℕ
lag_sum direction set c base count es later = sum_by (lag_pairs direction set c es later) (range_with_len (base + 1) count)

-- the same in both directions
abbrev pub both_lag_sums : CoincidenceView → ℕ → ℕ → ℕ → List Entry → List Entry → ℕ
both_lag_sums set c base count es later = lag_sum First set c base count es later + lag_sum Second set c base count es later

-- those in one direction, one by one
abbrev pub each_lag_pair : Side → CoincidenceView → ℕ → ℕ → ℕ → List Entry → List Entry → ℕ
each_lag_pair direction set c from count es later = sum_by (λ e. sum_by (λ l. lag_pair direction set c from count l e) later) es

-- the entries that later ones below an index, and not below another, may reach at the lags of a window
abbrev pub placed : ℕ → ℕ → ℕ → List Entry → List Entry
placed base low high es = filter (λ e. nat_lt e.index (high - base)) (filter (λ e. nat_le (low - (base + 4096)) e.index) es)

-- The later entries have a place in a window, and few photons. None of all that they may reach has more photons of a group than so many.
pub record FitsWindow (places : Places) (es later : List Entry) : Type 0 where
  pub few : (0 < length later) × (length later ≤ 1024)
  pub early : places.low < 2 ^ 63
  pub early' : AllByRecursion (λ e. e.index < 2 ^ 63) es
  pub short : places.high ≤ places.low + 4096
  pub near : AllByRecursion (λ e. (places.low ≤ e.index) × (e.index < places.high)) later
  pub weighed : (0 < places.most) × (places.most ≤ 255)
  pub light : IsLight places.most es
  pub firsts : sum_by (weight_of First) later ≤ 1024
  pub seconds : sum_by (weight_of Second) later ≤ 1024

-- all rise too
abbrev pub HasWindow : Places → List Entry → List Entry → Type 0
HasWindow places es later = FitsWindow places es later × IsRising es

-- There is at most one proof of it.
pub HasWindow-prop : (places : Places) (es later : List Entry) → IsProp (HasWindow places es later)
HasWindow-prop places es later = hlevel (props, rising-prop)

-- cells count the pairs with one earlier entry at some lags, one by one
abbrev pub CountsEarlier : Lags → Cells → Cells → ℕ → ℕ → Entry → List Entry → Type 0
CountsEarlier lags old new before now earlier later = let set = coincidence_view lags.set in
    Counts set old new before now (λ c. sum_by (λ l. lag_pair lags.direction set c lags.from lags.count l earlier) later) (length later)

-- and with each of some entries
abbrev pub CountsEach : Lags → Cells → Cells → ℕ → ℕ → List Entry → List Entry → Type 0
CountsEach lags old new before now es later = let set = coincidence_view lags.set in
    Counts set old new before now (λ c. each_lag_pair lags.direction set c lags.from lags.count es later) (length es * length later)
