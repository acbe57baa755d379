-- Cells of known photons.
use Rattle.{std.{proofs.Common.{◌≡◌, ℕ, List, [], ◌∷◌, map, refl}, specs.List.range_with_len}, tally_base.specs.declared.event.Event.Event}
use Rattle.tally_base.specs.{declared.event.EventKind.TheVariants.{Photon, Marker}, Settings.CoincidenceView, Tally.History}
use Rattle.coincidence.specs.Pairs.{coincidences}

abbrev pub photon : ℕ → ℕ → Event × ℕ
photon time groups = (record { place = 1; kind = Photon 1 0; time = time }, groups)

abbrev pub marker : ℕ → Event × ℕ
marker time = (record { place = 1; kind = Marker 15; time = time }, 3)

-- the first cells of a table
abbrev pub cells : CoincidenceView → ℕ → History → List ℕ
cells set n h = map (λ c. coincidences set c h) (range_with_len 0 n)

abbrev pub of_one : CoincidenceView
of_one = record { first = 1; second = 1; reach = 4; width = 1 }

abbrev pub of_two : CoincidenceView
of_two = record { first = 1; second = 2; reach = 4; width = 3 }

-- a group with itself: each two photons are two pairs, and none is a pair with itself
pub row-one : cells of_one 9 (photon 3 1 ∷ photon 3 1 ∷ photon 7 1 ∷ []) ≡ 2 ∷ 0 ∷ 0 ∷ 0 ∷ 2 ∷ 0 ∷ 0 ∷ 0 ∷ 2 ∷ []
row-one = refl

-- one tick more than the reach
pub row-past : cells of_one 9 (photon 0 1 ∷ photon 5 1 ∷ []) ≡ 0 ∷ 0 ∷ 0 ∷ 0 ∷ 0 ∷ 0 ∷ 0 ∷ 0 ∷ 0 ∷ []
row-past = refl

-- differences of - 4, 0 and 4, in cells of three ticks; markers are in no pair
pub row-two : cells of_two 3 (photon 6 2 ∷ photon 10 1 ∷ photon 10 2 ∷ marker 10 ∷ photon 14 2 ∷ []) ≡ 1 ∷ 1 ∷ 1 ∷ []
row-two = refl
