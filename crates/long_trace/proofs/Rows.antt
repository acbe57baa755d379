-- Known traces.
use Rattle.{std.{proofs.Common.{◌≡◌, ℕ, [], ◌∷◌, refl, codes}, specs.Fmt.digits}, tally_base.specs.declared.event.{Event.Event, EventKind.TheVariants.Photon}}
use Rattle.{tally_base.specs.{declared.event.EventKind.TheVariants.Marker, Settings.TraceView, Tally.History}, long_trace.specs.Texts.{span, frequencies_text}}
use Rattle.long_trace.specs.Texts.{open_text, whole_text}

-- a photon of the first group
abbrev photon : ℕ → Event × ℕ
photon time = (record { place = 1; kind = Photon 1 0; time = time }, 1)

-- a trace of bins of five, from 10 on
abbrev set : TraceView
set = record { group = 1; origin = 10; width = 5; bins = 1 }

abbrev rows : History
rows = photon 5 ∷ photon 10 ∷ photon 14 ∷ photon 15 ∷ photon 1000 ∷ []

pub known_traces :
    -- What is written while photons may come has no line of the last bin.
    (open_text set rows ≡ codes "trace 1 origin 10 width 5\n0 2\n1 1\n")
    × (span set rows ≡ 199)
    -- The empty bins between are counted.
    × (whole_text set rows ≡ codes "trace 1 origin 10 width 5\n0 2\n1 1\n198 1\nbefore 1\nfrequency 0 196\nfrequency 1 2\nfrequency 2 1\nabove 0\n")
    × (whole_text set [] ≡ codes "trace 1 origin 10 width 5\nbefore 0\nabove 0\n")
    -- Photons before the origin, photons of other groups and markers are in no bin.
    × (whole_text set (photon 9 ∷ (record { place = 2; kind = Photon 1 0; time = 10 }, 2) ∷ (record { place = 3; kind = Marker 1; time = 11 }, 1) ∷ []) ≡
    codes "trace 1 origin 10 width 5\nbefore 1\nabove 0\n")
unfolding digits frequencies_text
known_traces = (refl, refl, refl, refl, refl)
