-- The events that a table was given, their greatest time, and how many of them there are.
use Rattle.std.specs.{Prelude.{ℕ, Bool, ◌||◌, ◌&&◌, max, List, fold, sum_by, count_by, if◌then◌else◌, ◌≤◌, IsTrue, [], ◌∷◌}, List.range_with_len}
use Rattle.tally_base.specs.{declared.event.Event.Event, Events.{is_photon, is_in}, Limits.time_limit}

-- events in the order in which they came, each with its groups: bit g - 1 for group g
abbrev pub History : Type 0
History = List (Event × ℕ)

-- a photon comes in order; in a strict table a marker does too
abbrev pub moves_floor : Bool → Event → Bool
moves_floor strict e = strict || is_photon e

-- the greatest time of the events that come in order, or 0 where there are none
abbrev pub greatest_time : Bool → History → ℕ
greatest_time strict h = fold (λ t x. if moves_floor strict x.0 then max t x.0.time else t) 0 h

-- the sum of what is in each of so many bins
abbrev pub in_all_bins : ℕ → (ℕ → ℕ) → ℕ
in_all_bins bins in_bin = sum_by in_bin (range_with_len 0 bins)

-- how many photons are in this group
abbrev pub photons_of_group : ℕ → History → ℕ
photons_of_group group h = count_by (λ x. is_photon x.0 && is_in x.1 group) h

-- Events after other events.

-- the time of the last event that comes in order, or this one
abbrev pub floor_after : Bool → ℕ → List Event → ℕ
floor_after strict floor [] = floor
floor_after strict floor (e ∷ es) = floor_after strict (if moves_floor strict e then e.time else floor) es

-- no event comes before the greatest time so far, and none too late
abbrev pub InOrder : Bool → ℕ → List Event → Type 0
InOrder strict floor [] = Unit {0}
InOrder strict floor (e ∷ es) = (e.time ≤ time_limit) × (IsTrue (moves_floor strict e) → floor ≤ e.time) × InOrder strict (if moves_floor strict e then e.time else floor) es
