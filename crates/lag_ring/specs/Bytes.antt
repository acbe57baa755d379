-- Weights by tick in bytes.
use Rattle.std.specs.{Prelude.{ℕ, ◌≡◌, ◌+◌, ◌-◌, ◌*◌, ◌^◌, ◌<◌, ◌≤◌, ◌==◌, List, length, slice_index}, List.AllByRecursion}
use Rattle.lag_ring.specs.{declared.{ring.Entry.Entry, window.Side.{Side, TheVariants.{First, Second}}}, Ring.weight_where}

-- Weights by tick.

abbrev pub weight_of : Side → Entry → ℕ
weight_of First e = e.a
weight_of Second e = e.b

-- the weight of the entry that stands so many lags before an index, or 0
abbrev pub weight_before : Side → ℕ → ℕ → List Entry → ℕ
weight_before side lag index es = weight_where (weight_of side) (λ i. i + lag == index) es

-- the weight of the entry that has the place p in a window, whose place 0 is that of the index top below low
abbrev pub weight_at : Side → ℕ → ℕ → ℕ → List Entry → ℕ
weight_at side top low p es = weight_where (weight_of side) (λ i. i + top == low + p) es

-- an entry's weight times what stands in the window so many places after that of its index, where place 0 is that of low
abbrev pub product_at : Side → List ℕ → ℕ → ℕ → Entry → ℕ
product_at side window low from e = slice_index window (e.index - low + from) * weight_of side e

-- Weights by tick in bytes.

-- no weight of the entries is above this number
abbrev pub IsLight : ℕ → List Entry → Type 0
IsLight most es = AllByRecursion (λ e. (e.a ≤ most) × (e.b ≤ most)) es

-- what stands so many places after a spot of a window
abbrev pub behind : List ℕ → ℕ → ℕ → ℕ
behind window from spot = slice_index window (spot + from)

-- each place of a window has room in a byte for the weight that entries have there
abbrev pub Fit : Side → ℕ → ℕ → List ℕ → List Entry → Type 0
Fit side top low window es = (p : ℕ) → p < length window → slice_index window p + weight_at side top low p es < 2 ^ 8

-- each place of a window has that weight more than before
abbrev pub Have : Side → ℕ → ℕ → List ℕ → List ℕ → List Entry → Type 0
Have side top low old new es = (p : ℕ) → p < length old → slice_index new p ≡ slice_index old p + weight_at side top low p es

-- A window serves photons at some spots up to the greatest lag: its places have few photons each, and so many lags have a place after each spot.
pub record ServesSpots (most top : ℕ) (window spots : List ℕ) : Type 0 where
  pub weighed : (0 < most) × (most ≤ 255)
  pub light : (p : ℕ) → p < length window → slice_index window p ≤ most
  pub few : length spots ≤ 1024
  pub near : AllByRecursion (λ s. s + top ≤ length window) spots
