-- The weights of bins by index, where bins are dense.
use Rattle.std.specs.{Prelude.{ℕ, ◌≡◌, ◌+◌, ◌-◌, ◌*◌, ◌%◌, ◌^◌, ◌<◌, ◌≤◌, if◌then◌else◌, ◌/◌, nat_lt, nat_le, min, List, [], ◌++◌, length, map, filter, sum_by, slice_index}, List.AllByRecursion}
use Rattle.std.specs.List.{range_with_len}
use Rattle.{lag_ring.specs.{declared.{ring.Entry.Entry, window.Side.{Side, TheVariants.{First, Second}}}, Bytes.{weight_of, weight_at}}, tau_cascade.specs.declared.grid.Grid.Grid}
use Rattle.tau_cascade.specs.{declared.level.Coming.Coming, Opens.closed_bins, Bins.{merged_all, IsSpaced, FitCounts}}

-- places, of which the first is that of an index, have the weights of bins on one side
abbrev pub HaveWeights : Side → ℕ → List ℕ → List Entry → Type 0
HaveWeights side base places es = (p : ℕ) → p < 4096 → slice_index places p ≡ weight_at side 0 base p es

-- the photons of a bin
abbrev pub photons : Entry → ℕ
photons e = e.a + e.b

-- a grid has the weights of bins, which all have a place in it and fewer photons than are too many
pub record Stands (g : Grid) (es : List Entry) : Type 0 where
  pub firsts : HaveWeights First g.base g.firsts es
  pub seconds : HaveWeights Second g.base g.seconds es
  pub within : AllByRecursion (λ e. (g.base ≤ e.index) × (e.index < g.base + g.len)) es
  pub few : g.len ≤ 4096
  pub even : g.base % 2 ≡ 0
  pub fits : g.base + g.len ≤ 2 ^ 64
  pub total : (sum_by photons es ≤ g.total) × (g.total < 2 ^ 15)

-- a grid without bins
abbrev pub IsEmpty : Grid → Type 0
IsEmpty g = Stands g [] × (g.len ≡ 0)

-- a grid stands for these bins, or has none
pub record IsGrid (g : Grid) (es : List Entry) : Type 0 where
  pub on : 0 < g.len → Stands g es
  pub off : g.len ≡ 0 → Stands g []

-- a grid stands for the bins that the level below closed, or has none
pub record IsBeside (g : Grid) (coming : Coming) (bins : List Entry) : Type 0 where
  pub up : 0 < g.len → 0 < coming.levels
  pub grid : IsGrid g (closed_bins coming bins)

-- bins that a level may close, and a grid that stands for them, or has none: at least one of eight of its places has photons
pub record CanClose (g : Grid) (es : List Entry) : Type 0 where
  pub grid : IsGrid g es
  pub dense : g.len ≤ 8 * length (merged_all es)
  pub sorted : IsSpaced 0 es
  pub fit : FitCounts (merged_all es)

-- bins have fewer photons of the first group than are too many
abbrev pub FewFirsts : List Entry → Type 0
FewFirsts es = sum_by (weight_of First) es < 2 ^ 15

-- how many bins are multiplied of a list with so many: those, or a quarter as many as a grid that has them has places
abbrev pub counted : Grid → ℕ → ℕ
counted g bins = if nat_le 1 g.len then (g.len + 3) / 4 else bins

-- 1 at a place that has photons, and else 0
abbrev pub filled : List ℕ → List ℕ → ℕ → ℕ
filled firsts seconds p = min 1 (slice_index firsts p + slice_index seconds p)

-- what two neighbouring places have together, at one place after so many others
abbrev pub halved : ℕ → List ℕ → ℕ → ℕ
halved off places p = slice_index places (2 * (p - off)) + slice_index places (2 * (p - off) + 1)

-- the product of what two parts have at one place
abbrev pub product : List ℕ → List ℕ → ℕ → ℕ
product a b i = slice_index a i * slice_index b i

-- the products of so many places with what stands from a place of a window on, taken together
abbrev pub dots : List ℕ → ℕ → List ℕ → ℕ → ℕ
dots window from places n = sum_by (λ q. slice_index window (from + q) * slice_index places q) (range_with_len 0 n)

-- the bin at a place of a grid
abbrev pub bin_at : Grid → ℕ → Entry
bin_at g p = record { index = g.base + p; a = slice_index g.firsts p; b = slice_index g.seconds p }

-- its bins from a place on, of which each has photons
abbrev pub bins_from : Grid → ℕ → List Entry
bins_from g start = filter (λ e. nat_lt 0 (photons e)) (map (bin_at g) (range_with_len start (g.len - start)))

-- entries that are not before an index, and after them those bins
abbrev pub kept_and : ℕ → List Entry → Grid → ℕ → List Entry
kept_and before entries g start = filter (λ e. nat_le before e.index) entries ++ bins_from g start
