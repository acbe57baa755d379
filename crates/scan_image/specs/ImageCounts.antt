-- The counts of an image over the events that it is given, and their sum.
use Rattle.std.specs.{Prelude.{ℕ, Bool, false, ◌&&◌, ◌==◌, List, Option, None, Some, is_none, length, take, count_by, filter_map, sum_by}, List.{range_with_len, slice_get}, Option.option_map_or}
use Rattle.tally_base.specs.{declared.event.{Event.Event, EventKind.{EventKind, TheVariants.{Photon, Marker}}}, Events.is_in, Settings.ImageView, Tally.History}
use Rattle.{tcspc_hist.specs.HistogramCounts.dtime_passes, scan_image.specs.Places.{Mark, mark, place_of}}

abbrev pub mark_at : ℕ → EventKind → Option Mark
mark_at time (Photon input dtime) = None
mark_at time (Marker bits) = Some (mark bits time)

-- the markers among these events
abbrev pub markers : History → List Mark
markers h = filter_map (λ x. mark_at x.0.time x.0.kind) h

-- how many events of the list pass a test that sees all events before them too
abbrev pub count_behind : (History → Event × ℕ → Bool) → History → ℕ
count_behind test h = count_by (λ i. option_map_or (test (take i h)) (slice_get h i) false) (range_with_len 0 (length h))

-- a photon of the group whose place after these events, if it has one, passes the test together with its dtime
abbrev pub is_met : ImageView → (Option (ℕ × ℕ) → ℕ → Bool) → History → Event × ℕ → Bool
is_met set test before x = is_in x.1 set.group && dtime_passes (test (place_of set x.0.time (markers before))) x.0.kind

-- how many photons of the group have such a place and dtime
abbrev pub count_met : ImageView → (Option (ℕ × ℕ) → ℕ → Bool) → History → ℕ
count_met set test h = count_behind (is_met set test) h

-- how many photons of the group have a place that passes the test
abbrev pub count_placed : ImageView → (Option (ℕ × ℕ) → Bool) → History → ℕ
count_placed set test h = count_met set (λ place dtime. test place) h

abbrev pub is_at : ℕ → ℕ → Option (ℕ × ℕ) → Bool
is_at x y None = false
is_at x y (Some place) = (place.0 == x) && (place.1 == y)

-- how many photons of the group have their place in column x and row y
abbrev pub in_cell : ImageView → ℕ → ℕ → History → ℕ
in_cell set x y h = count_placed set (is_at x y) h

-- how many photons of the group have no place
abbrev pub count_outside : ImageView → History → ℕ
count_outside set h = count_placed set is_none h

-- the sum over all cells, row by row
abbrev pub in_all_cells : ImageView → History → ℕ
in_all_cells set h = sum_by (λ y. sum_by (λ x. in_cell set x y h) (range_with_len 0 set.width)) (range_with_len 0 set.height)
