-- The sets of groups that have a photon in the window that begins at a photon.
use Rattle.std.specs.{Prelude.{ℕ, ◌+◌, ◌*◌, Bool, ◌&&◌, ◌==◌, nat_le, List, [], ◌∷◌, count_by, if◌then◌else◌, ◌^◌, sum_by, length}, List.{list_any, range_with_len}}
use Rattle.tally_base.specs.{declared.event.Event.Event, Events.{is_photon, is_in}, Settings.FoldView, Tally.History}

-- a photon of the group
abbrev pub is_of : ℕ → Event × ℕ → Bool
is_of group x = is_photon x.0 && is_in x.1 group

-- a photon of at least one of the groups
abbrev pub is_of_any : List ℕ → Event × ℕ → Bool
is_of_any groups x = is_photon x.0 && list_any (λ group. is_in x.1 group) groups

-- a photon of the group in the window that begins at a time
abbrev pub is_seen : ℕ → ℕ → ℕ → Event × ℕ → Bool
is_seen window time group x = is_of group x && (nat_le time x.0.time && nat_le x.0.time (time + window))

-- the sum of 2 ^ (k - 1) over those k for which the k-th of a list passes the test
abbrev pub number_of : {X : Type 0} → (X → Bool) → List X → ℕ
number_of test [] = 0
number_of test (x ∷ xs) = (if test x then 1 else 0) + 2 * number_of test xs

-- the set of the groups that have a photon in the window that begins at a time, as a number
abbrev pub seen_set : FoldView → History → ℕ → ℕ
seen_set set h time = number_of (λ group. list_any (is_seen set.window time group) h) set.groups

-- how many photons of at least one of the groups have this set in the window that begins at them
abbrev pub in_set : FoldView → ℕ → History → ℕ
in_set set s h = count_by (λ x. is_of_any set.groups x && (seen_set set h x.0.time == s)) h

-- the sum over all sets
abbrev pub in_all_sets : FoldView → History → ℕ
in_all_sets set h = sum_by (λ s. in_set set s h) (range_with_len 0 (2 ^ length set.groups))
