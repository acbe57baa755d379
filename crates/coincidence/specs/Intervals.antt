-- The intervals from a photon of one group to the next of another.
use Rattle.std.specs.{Prelude.{ℕ, ◌-◌, ◌/◌, Bool, ◌&&◌, ◌||◌, ◌==◌, nat_le, List, Option, None, Some, drop, count_by, if◌then◌else◌, suc, false, not, nat_lt, length, take, sum_by}, List.{filter, zip}}
use Rattle.std.specs.{List.{last_or, list_any, range_with_len, slice_get}, Option.option_and_then}
use Rattle.tally_base.specs.{declared.event.Event.Event, Events.{is_photon, is_in}, Settings.StartStopView, Tally.History}

-- each item with the next
abbrev pub neighbours : {X : Type 0} → List X → List (X × X)
neighbours xs = zip xs (drop 1 xs)

-- a photon of the start group, of the stop group, or of both
abbrev pub is_of_either : StartStopView → Event × ℕ → Bool
is_of_either set x = is_photon x.0 && (is_in x.1 set.start || is_in x.1 set.stop)

abbrev pub photons_of_either : StartStopView → History → History
photons_of_either set h = filter (is_of_either set) h

-- from a photon of the start group to one of the stop group, and the time between them passes the test
abbrev pub is_interval : StartStopView → (ℕ → Bool) → (Event × ℕ) × (Event × ℕ) → Bool
is_interval set test pair = is_in pair.0.1 set.start && (is_in pair.1.1 set.stop && test (pair.1.0.time - pair.0.0.time))

-- how many intervals between neighbours have a time that passes the test
abbrev pub count_intervals : StartStopView → (ℕ → Bool) → History → ℕ
count_intervals set test h = count_by (is_interval set test) (neighbours (photons_of_either set h))

-- how many intervals are in bin b
abbrev pub in_interval : StartStopView → ℕ → History → ℕ
in_interval set b h = count_intervals set (λ time. time / set.width == b) h

-- how many intervals are past the last bin
abbrev pub count_over : StartStopView → History → ℕ
count_over set h = count_intervals set (λ time. nat_le set.bins (time / set.width)) h

-- the time of a photon that is in the start group
abbrev pub start_of : StartStopView → Event × ℕ → Option ℕ
start_of set x = if is_in x.1 set.start then Some x.0.time else None

-- the time of the last photon of either group, where it is in the start group
abbrev pub open_start : StartStopView → History → Option ℕ
open_start set h = option_and_then (start_of set) (last_or None (photons_of_either set h))

-- The intervals once more, as pairs of places in the list of events, where the first place is 0.

abbrev pub places : History → List ℕ
places h = range_with_len 0 (length h)

-- no photon of either group stands between the places i and j
abbrev pub is_clear_between : StartStopView → History → ℕ → ℕ → Bool
is_clear_between set h i j = not (list_any (is_of_either set) (drop (suc i) (take j h)))

-- what stands at two places are a photon of the start group and one of the stop group, and the time between them passes the test
abbrev pub are_ends : StartStopView → (ℕ → Bool) → Option (Event × ℕ) → Option (Event × ℕ) → Bool
are_ends set test None other = false
are_ends set test (Some x) None = false
are_ends set test (Some x) (Some y) = is_photon x.0 && (is_photon y.0 && is_interval set test (x, y))

abbrev pub is_pair : StartStopView → (ℕ → Bool) → History → ℕ → ℕ → Bool
is_pair set test h i j = nat_lt i j && (is_clear_between set h i j && are_ends set test (slice_get h i) (slice_get h j))

-- how many pairs of places are the ends of an interval whose time passes the test
abbrev pub count_pairs : StartStopView → (ℕ → Bool) → History → ℕ
count_pairs set test h = sum_by (λ i. count_by (is_pair set test h i) (places h)) (places h)
