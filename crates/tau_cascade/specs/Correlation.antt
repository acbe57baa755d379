-- The correlation of two groups, as a count of pairs.
use Rattle.std.specs.Prelude.{ℕ, ◌+◌, ◌-◌, ◌/◌, ◌^◌, Bool, ◌&&◌, ◌||◌, ◌==◌, filter, sum_by, count_by, if◌then◌else◌}
use Rattle.tally_base.specs.{declared.event.Event.Event, Events.{is_photon, is_in}, Settings.CorrelationView, Tally.History}

-- an event with its groups
abbrev pub Given : Type 0
Given = Event × ℕ

-- the bin of an event on a level: its time, halved once for each level below
abbrev pub bin : ℕ → Given → ℕ
bin level x = x.0.time / 2 ^ level

abbrev pub in_first : CorrelationView → Given → Bool
in_first set x = is_photon x.0 && is_in x.1 set.first

abbrev pub in_second : CorrelationView → Given → Bool
in_second set x = is_photon x.0 && is_in x.1 set.second

-- x is in the first group, y in the second, and y is k bins after x
abbrev pub is_pair : CorrelationView → ℕ → ℕ → Given → Given → Bool
is_pair set level k x y = (in_first set x && in_second set y) && (bin level y == bin level x + k)

-- how many pairs of places of the list are k bins apart on the level
abbrev pub correlation : CorrelationView → ℕ → ℕ → History → ℕ
correlation set level k h = sum_by (λ x. count_by (λ y. is_pair set level k x y) h) h

-- how many of the first lags a level leaves to those below it
abbrev pub skipped_lags : CorrelationView → ℕ → ℕ
skipped_lags set level = if level == 0 then 0 else set.lags / 2

-- how many lags a level has
abbrev pub lag_count : CorrelationView → ℕ → ℕ
lag_count set level = set.lags - skipped_lags set level

-- the photons of either group
abbrev pub photons_of : CorrelationView → History → History
photons_of set h = filter (λ x. in_first set x || in_second set x) h
