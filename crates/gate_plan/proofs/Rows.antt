-- Shifted dtimes, events at the ends of gates, and in several groups.
use Rattle.{std.proofs.Common.{◌≡◌, refl, [], ◌∷◌}, tally_base.specs.declared.event.{Event.Event, EventKind.{EventKind, TheVariants.{Photon, Marker}}}}
use Rattle.gate_plan.specs.{Shifting.{Sorting, shifted}, Taking.groups_in}

abbrev event : EventKind → Event
event kind = record { place = 1; kind = kind; time = 0 }

-- the inputs 0 and 3, and the input 3 with the dtimes 10 to 19
abbrev two_groups : Sorting
two_groups = record { period = 1; shifts = []; groups = record { inputs = 9; gates = [] } ∷ record { inputs = 8; gates = (10, 20) ∷ [] } ∷ [] }

-- the dtimes of the input 0 and 10 more, modulo 100, from 0 to 4 and 13 alone
abbrev two_gates : Sorting
two_gates = record { period = 100; shifts = record { input = 0; shift = 10 } ∷ []; groups = record { inputs = 3; gates = (0, 5) ∷ (13, 14) ∷ [] } ∷ [] }

pub rows :
    (groups_in two_groups (event (Photon 3 9)) ≡ 1)
    × (groups_in two_groups (event (Photon 3 10)) ≡ 3)
    × (groups_in two_groups (event (Photon 3 19)) ≡ 3)
    × (groups_in two_groups (event (Photon 3 20)) ≡ 1)
    × (groups_in two_groups (event (Photon 1 15)) ≡ 0)
    × (groups_in two_groups (event (Marker 9)) ≡ 0)
    × (shifted two_groups (event (Photon 3 9)) ≡ event (Photon 3 9))
    × (shifted two_gates (event (Photon 0 0)) ≡ event (Photon 0 10))
    × (shifted two_gates (event (Photon 0 3)) ≡ event (Photon 0 13))
    × (shifted two_gates (event (Photon 0 90)) ≡ event (Photon 0 0))
    -- The dtime may be beyond the period.
    × (shifted two_gates (event (Photon 0 295)) ≡ event (Photon 0 5))
    -- An input without a shift keeps its dtime, beyond the period too, and a marker stays as it is.
    × (shifted two_gates (event (Photon 1 295)) ≡ event (Photon 1 295))
    × (shifted two_gates (event (Marker 9)) ≡ event (Marker 9))
    -- The gates are those of the shifted dtime.
    × (groups_in two_gates (event (Photon 0 0)) ≡ 0)
    × (groups_in two_gates (event (Photon 0 3)) ≡ 1)
    × (groups_in two_gates (event (Photon 0 89)) ≡ 0)
    × (groups_in two_gates (event (Photon 0 90)) ≡ 1)
    × (groups_in two_gates (event (Photon 0 95)) ≡ 0)
    × (groups_in two_gates (event (Photon 1 3)) ≡ 1)
rows = (refl, refl, refl, refl, refl, refl, refl, refl, refl, refl, refl, refl, refl, refl, refl, refl, refl, refl, refl)
