-- What a correlation shows.
use Rattle.std.specs.{Prelude.{ℕ, ◌+◌, zero, suc, Option, slice_get}, Option.{option_map, option_map_or}}
use Rattle.tally_base.specs.{declared.settings.CorrelationSet.CorrelationSet, Settings.{PartSettings, correlation_view, PartSettings.CorrelationSettings}, Tally.History}
use Rattle.{lag_ring.specs.{declared.ring.Entry.Entry, Cells.Cells, Pairings.{Paired, paired_by}, Ring.Ring}, tau_cascade.specs.{declared.cascade.Cascade.Cascade, StandsFor.StandsFor, Levels.spent}}

-- what it was opened with
abbrev pub set_of : Cascade → CorrelationSet
set_of t = t.set

abbrev pub settings : Cascade → PartSettings
settings t = CorrelationSettings (correlation_view t.set)

-- it stands for these events
abbrev pub Holds : Cascade → History → Type 0
Holds t h = StandsFor t.closed t.set t.levels.items t.taken t.floor h

-- the cells of a level, where there is one
abbrev pub cells_at : Cascade → ℕ → Option Cells
cells_at t level = option_map (λ l. l.cells) (slice_get t.levels.items level)

-- the ring of a level, where there is one
abbrev pub ring_at : Cascade → ℕ → Option Ring
ring_at t level = option_map (λ l. l.ring) (slice_get t.levels.items level)

-- how many bins the lists had together that a level paired, and those of which it began a window
abbrev pub paired_at : Cascade → ℕ → Paired
paired_at t level = option_map_or (λ l. l.paired) (slice_get t.levels.items level) (paired_by 0 0)

-- the open bin of a level, where there is such a level
abbrev pub open_at : Cascade → ℕ → Option (Option Entry)
open_at t level = option_map (λ l. l.open) (slice_get t.levels.items level)

-- how many additions made the cells of so many levels, from the lowest upwards
abbrev pub added_below : Cascade → ℕ → ℕ
added_below t zero = 0
added_below t (suc level) = added_below t level + option_map_or (λ c. c.added) (cells_at t level) 0

-- how many additions made the cells of all levels
abbrev pub spent_by : Cascade → ℕ
spent_by t = spent t.levels.items
