-- Which bins are open, from the events alone.
use Rattle.std.specs.Prelude.{ℕ, ◌/◌, zero, suc, max, Bool, true, false, ◌&&◌, ◌==◌, nat_lt, Option, None, Some, unwrap_or, List, [], ◌∷◌, map, filter, count_by, ◌+◌, ◌<◌, ◌-◌, ◌≤◌, take, drop}
use Rattle.std.specs.Option.{option_map, option_and_then, option_map_or}
use Rattle.{tally_base.specs.{Settings.CorrelationView, Tally.History}, lag_ring.specs.declared.ring.Entry.Entry, tau_cascade.specs.Correlation.{Given, bin, in_first, in_second, photons_of}}
use Rattle.tau_cascade.specs.{declared.level.Coming.Coming, Bins.{stretch, IsSpaced, near}}

-- the greatest number of a list
abbrev pub greatest : List ℕ → Option ℕ
greatest [] = None
greatest (n ∷ ns) = Some (max n (unwrap_or (greatest ns) 0))

-- the index of a level's open bin: on the lowest the greatest time, above that half of the greatest bin of the level below that is before that level's open one
abbrev pub open_index : ℕ → History → Option ℕ
open_index zero xs = greatest (map (bin 0) xs)
open_index (suc level) xs = option_and_then (λ p. option_map (λ v. v / 2) (greatest (filter (λ n. nat_lt n p) (map (bin level) xs)))) (open_index level xs)

-- the photons that have left the level below: those before its open bin
abbrev pub has_come : ℕ → History → Given → Bool
has_come zero xs x = true
has_come (suc level) xs x = option_map_or (λ p. nat_lt (bin level x) p) (open_index level xs) false

-- the open bin of a level: photons in its bin that have come
abbrev pub open_of : CorrelationView → ℕ → History → Option Entry
open_of set level xs = option_map (λ p. record {
  index = p;
  a = count_by (λ x. in_first set x && (has_come level xs x && (bin level x == p))) xs;
  b = count_by (λ x. in_second set x && (has_come level xs x && (bin level x == p))) xs;
}) (open_index level xs)

abbrev pub open_bin : CorrelationView → ℕ → History → Option Entry
open_bin set level h = open_of set level (photons_of set h)

-- Bins that come to a level from the one below it.

-- those bins, on the level to which they come
abbrev pub coming_bins : Coming → List Entry → List Entry
coming_bins coming bins = stretch coming.from coming.count coming.levels bins

-- the same a level down, as that closed them
abbrev pub closed_bins : Coming → List Entry → List Entry
closed_bins coming bins = stretch coming.from coming.count (coming.levels - 1) bins

-- They are in a list of 1192 places with room before them, of 168 on the first level and one less on each above, come from no further down than there are levels, and are as far apart and as near to one another as is said.
pub record IsComing (coming : Coming) (level : ℕ) (bins : List Entry) : Type 0 where
  pub places : (coming.from ≤ 168) × (168 ≤ coming.from + level) × (coming.from + coming.count ≤ 1192)
  pub up : coming.levels ≤ level + 1
  pub spaced : 0 < coming.apart → IsSpaced coming.apart (take coming.count (drop coming.from bins))
  pub nearer : near coming.gaps.usual (take coming.count (drop coming.from bins)) ≤ coming.gaps.nearer
