-- Pairs of bins with what stands in a window.
use Rattle.std.specs.{Prelude.{ℕ, Bool, true, false, nat_le, if◌then◌else◌, ◌≡◌, ◌+◌, ◌-◌, ◌*◌, ◌^◌, ◌<◌, ◌≤◌, min, List, [], ◌∷◌, slice_index, ◌++◌, length, map, take, drop}, List.AllByRecursion}
use Rattle.{lag_ring.specs.{declared.{ring.Entry.Entry, window.Side.TheVariants.First}, Cells.{Cells, added_at}, Pairings.Paired, Bytes.{weight_at, IsLight}}, tau_cascade.specs.Levels.weight_before}
use Rattle.tau_cascade.specs.{declared.{laid.Laying.Laying, bins.{Bins.Bins, LagRange.LagRange}}, Bins.raised}

-- the bins of a list as they are meant
abbrev pub bins_of : Bins → List Entry
bins_of b = map (raised b.levels) b.list.now

-- how many of them are paired
abbrev pub bins_paired : Bins → ℕ
bins_paired b = length b.list.now - b.start

-- What bins add to the cell of a lag.

-- the second weight of each bin times the first weight of the bin that is so far before it, among these and the bins before them
abbrev pub paired : ℕ → List Entry → List Entry → ℕ
paired lag before [] = 0
paired lag before (e ∷ es) = weight_before lag e.index before * e.b + paired lag (before ++ e ∷ []) es

-- the same of the bins of a list from a place on
abbrev pub paired_from : ℕ → ℕ → List Entry → ℕ
paired_from start lag es = paired lag (take start es) (drop start es)

-- cells, of which the first is that of the first lag above those skipped, have the pairs of the bins of a list from a place on more than they had
abbrev pub ArePaired : LagRange → ℕ → List ℕ → List ℕ → List Entry → Type 0
ArePaired range start old new es = (p : ℕ) → p < range.last - range.skipped → slice_index new p ≡ slice_index old p + paired_from start (p + range.skipped + 1) es

-- sums have the pairs of those bins alone
abbrev pub HavePairs : LagRange → ℕ → List ℕ → List Entry → Type 0
HavePairs range start sums es = (p : ℕ) → p < range.last - range.skipped → slice_index sums p ≡ paired_from start (p + range.skipped + 1) es

-- cells that get the pairs of bins stay within a cell's bound
abbrev pub FitPairs : LagRange → Bins → List ℕ → Type 0
FitPairs range b old = (p : ℕ) → p < range.last - range.skipped → slice_index old p + paired_from b.start (p + range.skipped + 1) (bins_of b) ≤ 2 ^ 80

-- no cell had more than so many additions more
abbrev pub AddsAtMost : ℕ → Cells → Cells → Type 0
AddsAtMost most old new = (p : ℕ) → added_at new p ≤ added_at old p + most

-- lists with so many bins more are noted, and windows for so many
abbrev pub Notes : Paired → Paired → ℕ → ℕ → Type 0
Notes old new lists windows = (new.lists ≡ old.lists + lists) × (new.windows ≡ old.windows + windows)

-- lists with so many bins more are noted, and windows for no more than those
abbrev pub NotesOnce : Paired → Paired → ℕ → Type 0
NotesOnce old new bins = (new.lists ≡ old.lists + bins) × (new.windows ≤ old.windows + bins)

-- By the answer sums have the pairs of bins, and those are noted, or stay as they are; a window was begun for at most 1024 bins.
pub record PairsIfClose (range : LagRange) (b : Bins) (old new : List ℕ) (was is : Paired) (answer : Bool) : Type 0 where
  pub sums : answer ≡ true → HavePairs range b.start new (bins_of b)
  pub none : answer ≡ false → new ≡ old
  pub noted : Notes was is (if answer then bins_paired b else 0) (if nat_le (bins_paired b) 1024 then bins_paired b else 0)

-- Bins that are laid close together.

-- bins after one of this index that lies at this place, each as far from the one before it as it is, and no further than the reach
abbrev pub laid : ℕ → ℕ → ℕ → List Entry → List Entry
laid reach index place [] = []
laid reach index place (e ∷ es) = record { index = place + min (e.index - index) reach; a = e.a; b = e.b } ∷ laid reach e.index (place + min (e.index - index) reach) es

-- bins as they are laid at these places
abbrev pub placed : List Entry → List ℕ → List Entry
placed [] ps = []
placed (e ∷ es) [] = []
placed (e ∷ es) (p ∷ ps) = record { index = p; a = e.a; b = e.b } ∷ placed es ps

-- a window of 8640 places has nothing
abbrev pub IsZero : List ℕ → Type 0
IsZero window = (p : ℕ) → p < 8640 → slice_index window p ≡ 0

-- bins were laid in a window, whose place 192 is that of the index, and others are laid after the last of them
pub record IsLaid (window : List ℕ) (reach index : ℕ) (laying : Laying) (es : List Entry) : Type 0 where
  pub weights : laying.heaviest < 2048 → (p : ℕ) → p < 8640 → slice_index window p ≡ weight_at First 192 0 p (laid reach index 0 es)
  pub light : (p : ℕ) → p < 8640 → slice_index window p ≤ laying.heaviest
  pub behind : (p : ℕ) → laying.place + 192 < p → p < 8640 → slice_index window p ≡ 0
  pub heaviest : IsLight laying.heaviest es
  pub next : (rest : List Entry) → laid reach index 0 (es ++ rest) ≡ laid reach index 0 es ++ laid reach laying.index laying.place rest
  pub upto : (most : ℕ) → index ≤ most → AllByRecursion (λ e. e.index ≤ most) es → laying.index ≤ most
  pub near : laying.place + index ≤ laying.index

-- there are no more lags than lanes, and no more than 64 of these
pub record FitLanes (lanes : ℕ) (range : LagRange) : Type 0 where
  pub lags : range.last - range.skipped ≤ lanes
  pub most : lanes ≤ 64

-- There are places for so many bins, and so many lanes, from an offset after each on, are within a window of 8640 places.
pub record HavePlaces (bins from lanes : ℕ) (places : List ℕ) : Type 0 where
  pub all : bins ≤ length places
  pub first : from ≤ 8640
  pub room : (i : ℕ) → slice_index places i + from + lanes ≤ 8640

-- sums in so many lanes, of which the last is that of the first lag above those skipped, have the pairs of the bins of a list from a place on more than they had
abbrev pub HavePaired : ℕ → LagRange → List ℕ → List ℕ → ℕ → List Entry → Type 0
HavePaired lanes range old new start es = (p : ℕ) → p < range.last - range.skipped → slice_index new (lanes - 1 - p) ≡ slice_index old (lanes - 1 - p) + paired_from start (p + range.skipped + 1) es

-- and no more than so many bins of fewer than 2048 photons have
abbrev pub AreWithin : ℕ → ℕ → List ℕ → List ℕ → Type 0
AreWithin lanes bins old new = (q : ℕ) → q < lanes → slice_index new q ≤ slice_index old q + 4190209 * bins

-- as much as those have fits in them
abbrev pub HaveRoom : ℕ → ℕ → List ℕ → Type 0
HaveRoom lanes bins sums = (q : ℕ) → q < lanes → slice_index sums q + 4190209 * bins < 2 ^ 32
