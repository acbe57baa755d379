-- The definitions at known photons.
use Rattle.{std.proofs.Common.{◌≡◌, ℕ, refl, [], ◌∷◌}, tally_base.specs.declared.event.{Event.Event, EventKind.TheVariants.{Photon, Marker}}}
use Rattle.{tally_base.specs.{Settings.FoldView, Tally.History}, fold_count.specs.FoldCounts.{in_set, in_all_sets}}

-- A photon in these groups, and a marker of all groups.
abbrev photon : ℕ → ℕ → Event × ℕ
photon time groups = (record { place = 1; kind = Photon 0 0; time = time }, groups)

abbrev marker : ℕ → Event × ℕ
marker time = (record { place = 1; kind = Marker 1; time = time }, 15)

abbrev three : FoldView
three = record { groups = 1 ∷ 2 ∷ 3 ∷ []; window = 3 }

-- Photons of the groups 1, 2, 3 and 1.
abbrev four : History
four = photon 0 1 ∷ photon 3 2 ∷ photon 5 4 ∷ photon 5 1 ∷ []

row-first_two : in_set three 3 four ≡ 1
row-first_two = refl

row-both_of_a_tick : in_set three 5 four ≡ 2
row-both_of_a_tick = refl

row-all_three : in_set three 7 four ≡ 1
row-all_three = refl

row-none : in_set three 0 four ≡ 0
row-none = refl

row-all : in_all_sets three four ≡ 4
row-all = refl

abbrev two : FoldView
two = record { groups = 1 ∷ 2 ∷ []; window = 4 }

-- The end of a window is in it, and the tick after it is not. Markers count nowhere.
abbrev apart : History
apart = photon 0 1 ∷ marker 1 ∷ photon 4 2 ∷ photon 9 2 ∷ []

row-window_end : in_set two 3 apart ≡ 1
row-window_end = refl

row-behind_the_window : in_set two 2 apart ≡ 2
row-behind_the_window = refl

-- The place of a group in the fold counts, and not its number.
abbrev later_groups : FoldView
later_groups = record { groups = 2 ∷ 4 ∷ []; window = 1 }

row-place_in_fold : in_set later_groups 2 (photon 0 8 ∷ photon 2 8 ∷ []) ≡ 2
row-place_in_fold = refl
