-- The definitions at known events.
use Rattle.{std.proofs.Common.{◌≡◌, ℕ, [], ◌∷◌, refl, length, Some, None}, tally_base.specs.declared.event.EventKind.TheVariants.{Photon, Marker}}
use Rattle.{tally_base.specs.{Settings.CorrelationView, Tally.History}, tau_cascade.specs.Correlation.{Given, correlation, skipped_lags, lag_count, photons_of}}
use Rattle.tau_cascade.specs.{Opens.open_bin, Work.{occupied, work}}

abbrev pub photon : ℕ → ℕ → Given
photon time groups = (record { place = 1; kind = Photon 1 0; time = time }, groups)

abbrev pub marker : ℕ → ℕ → Given
marker time groups = (record { place = 1; kind = Marker 1; time = time }, groups)

-- one group with itself
abbrev own : CorrelationView
own = record { first = 1; second = 1; lags = 2; levels = 2 }

abbrev four : History
four = photon 0 1 ∷ photon 1 1 ∷ photon 3 1 ∷ photon 4 1 ∷ []

-- two groups
abbrev two : CorrelationView
two = record { first = 1; second = 2; lags = 4; levels = 2 }

abbrev seven : History
seven = photon 0 1 ∷ photon 1 1 ∷ photon 3 2 ∷ photon 4 2 ∷ photon 6 2 ∷ photon 7 2 ∷ photon 8 2 ∷ []

-- Photons of neither group and markers are in no pair, and photons of one bin don't meet.
abbrev mixed : History
mixed = photon 1 3 ∷ photon 1 3 ∷ marker 2 3 ∷ photon 2 4 ∷ photon 2 2 ∷ []

-- five photons on three levels: which bins are open, and how many additions may be made
abbrev three : CorrelationView
three = record { first = 1; second = 1; lags = 2; levels = 3 }

abbrev five : History
five = photon 0 1 ∷ photon 1 1 ∷ photon 2 1 ∷ photon 3 1 ∷ photon 8 1 ∷ []

pub rows :
    (correlation own 0 1 four ≡ 2)
    × (correlation own 0 2 four ≡ 1)
    × (correlation own 1 2 four ≡ 2)
    -- level 0 has the lags 1 and 2, the level above the lag 2 alone
    × (skipped_lags own 0 ≡ 0)
    × (skipped_lags own 1 ≡ 1)
    × (lag_count own 1 ≡ 1)
    × (correlation two 0 1 seven ≡ 0)
    × (correlation two 0 2 seven ≡ 1)
    × (correlation two 0 3 seven ≡ 2)
    × (correlation two 0 4 seven ≡ 1)
    × (correlation two 1 3 seven ≡ 4)
    × (correlation two 1 4 seven ≡ 2)
    × (correlation two 0 1 mixed ≡ 2)
    × (correlation two 0 2 mixed ≡ 0)
    × (length (photons_of two mixed) ≡ 3)
    × (open_bin three 0 five ≡ Some (record { index = 8; a = 1; b = 1 }))
    × (open_bin three 1 five ≡ Some (record { index = 1; a = 2; b = 2 }))
    × (open_bin three 2 five ≡ Some (record { index = 0; a = 2; b = 2 }))
    × (open_bin three 1 (photon 8 1 ∷ []) ≡ None)
    × (occupied 1 five ≡ 3)
    × (work three five ≡ 15)
rows = (refl, refl, refl, refl, refl, refl, refl, refl, refl, refl, refl, refl, refl, refl, refl, refl, refl, refl, refl, refl, refl)
