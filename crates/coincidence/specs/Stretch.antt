-- The pairs of later entries with those before them, at the lags of windows.
use Rattle.std.specs.Prelude.{ℕ, ◌+◌, ◌*◌, List, ◌++◌}
use Rattle.{tally_base.specs.Settings.{CoincidenceView, coincidence_view}, lag_ring.specs.{Cells.Cells, declared.{ring.Entry.Entry, window.Side.{Side, TheVariants.{First, Second}}}}}
use Rattle.coincidence.specs.{declared.stretch.Stretch.Stretch, Pairing.Counts, Closing.{lag_sum, lags_of, both_lag_sums}}

-- the entries that the later ones may reach
abbrev pub reached : Stretch → List Entry
reached s = s.front.now ++ s.back.now ++ s.own.now

abbrev pub view_of : Stretch → CoincidenceView
view_of s = coincidence_view s.places.set

-- how many lags the windows serve
abbrev pub lags_in : Stretch → ℕ
lags_in s = lags_of (view_of s) s.places.base

-- the pairs at the lags of the windows, in one direction
abbrev pub at_lags : Stretch → Side → ℕ → ℕ
at_lags s direction c = lag_sum direction (view_of s) c s.places.base (lags_in s) (reached s) s.later.now

-- in both
abbrev pub both_at_lags : Stretch → ℕ → ℕ
both_at_lags s c = at_lags s First c + at_lags s Second c

-- the pairs at all lags in reach
abbrev pub reach_sums : Stretch → ℕ → ℕ
reach_sums s c = both_lag_sums (view_of s) c 0 s.places.set.reach (reached s) s.later.now

-- cells count the pairs at the lags of the windows in one direction, by so many additions for each lag at most
abbrev pub CountsLags : Stretch → Side → Cells → Cells → ℕ → ℕ → ℕ → Type 0
CountsLags s direction old new before now each = Counts (view_of s) old new before now (at_lags s direction) (each * lags_in s)
