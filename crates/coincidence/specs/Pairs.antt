-- The pairs of photons of two groups by the difference of their times.
use Rattle.std.specs.{Prelude.{ℕ, ◌+◌, ◌-◌, ◌*◌, ◌/◌, Bool, false, not, ◌&&◌, ◌||◌, ◌==◌, nat_le, nat_lt, List, Option, None, Some, length, filter, count_by, sum_by}, List.{range_with_len, slice_get}}
use Rattle.tally_base.specs.{declared.event.Event.Event, Events.{is_photon, is_in}, Settings.CoincidenceView, Tally.History}

abbrev pub in_first : CoincidenceView → Event × ℕ → Bool
in_first set x = is_photon x.0 && is_in x.1 set.first

abbrev pub in_second : CoincidenceView → Event × ℕ → Bool
in_second set x = is_photon x.0 && is_in x.1 set.second

-- the times t of a first photon and u of a second one are at most the reach apart, and the cell is that of the difference from t to u
abbrev pub is_in_cell : CoincidenceView → ℕ → ℕ → ℕ → Bool
is_in_cell set c t u = (nat_le t (u + set.reach) && nat_le u (t + set.reach)) && ((u + set.reach - t) / set.width == c)

-- x is in the first group, y is in the second, and the cell is that of their difference
abbrev pub is_coincidence : CoincidenceView → ℕ → Event × ℕ → Event × ℕ → Bool
is_coincidence set c x y = (in_first set x && in_second set y) && is_in_cell set c x.0.time y.0.time

-- there are items at both places, and they pass the test
abbrev pub both_pass : {X : Type 0} → (X → X → Bool) → Option X → Option X → Bool
both_pass r None other = false
both_pass r (Some x) None = false
both_pass r (Some x) (Some y) = r x y

-- the places of a list, where the first is 0
abbrev pub places_of : {X : Type 0} → List X → List ℕ
places_of xs = range_with_len 0 (length xs)

-- i and j are different places, and their items pass the test
abbrev pub are_apart : {X : Type 0} → (X → X → Bool) → List X → ℕ → ℕ → Bool
are_apart r xs i j = not (i == j) && both_pass r (slice_get xs i) (slice_get xs j)

-- how many ordered pairs of different places have items that pass the test
abbrev pub pairs_apart : {X : Type 0} → (X → X → Bool) → List X → ℕ
pairs_apart r xs = sum_by (λ i. count_by (are_apart r xs i) (places_of xs)) (places_of xs)

-- how many pairs of photons the cell counts
abbrev pub coincidences : CoincidenceView → ℕ → History → ℕ
coincidences set c h = pairs_apart (is_coincidence set c) h

-- the photons of either group
abbrev pub photons_of_groups : CoincidenceView → History → History
photons_of_groups set h = filter (λ x. in_first set x || in_second set x) h

-- those that come before the tick of the last of them
abbrev pub before_last : History → History
before_last xs = filter (λ x. nat_lt 0 (count_by (λ y. nat_lt x.0.time y.0.time) xs)) xs

-- how many pairs of those the cell counts
abbrev pub coincidences_before : CoincidenceView → ℕ → History → ℕ
coincidences_before set c h = coincidences set c (before_last (photons_of_groups set h))

-- how many additions a table of these events may make: for each photon two for each tick before it in reach, and one for its own
abbrev pub work : CoincidenceView → History → ℕ
work set h = (2 * set.reach + 1) * length (photons_of_groups set h)

-- the same with the groups exchanged
abbrev pub exchanged : CoincidenceView → CoincidenceView
exchanged set = record { first = set.second; second = set.first; reach = set.reach; width = set.width }
