-- Reports of known runs.
use Rattle.std.{proofs.Common.{◌≡◌, ℕ, List, [], ◌∷◌, ◌++◌, None, Some, refl, pos, codes, false}, specs.Fmt.digits}
use Rattle.tally_base.specs.declared.{event.{Event.Event, EventKind.TheVariants.{Photon, Marker}}, header.{Header.Header, RecordType.TheVariants.HydraHarp2T3}}
use Rattle.tally_base.specs.{Hexadecimal.hexadecimal, Settings.{PartSettings, PartSettings.{HistSettings, TraceSettings, StartStopSettings}}}
use Rattle.tally_base.specs.{Settings.PartSettings.{CoincidenceSettings, ImageSettings, CorrelationSettings, CubeSettings, FoldSettings}, Tally.History}
use Rattle.{ptu_definitions.specs.declared.records.Summary.Summary, table_out.specs.Report.{head_text, parts_text, report, with_events}}
use Rattle.table_out.specs.{Histogram.histogram_printed, Trace.trace_printed, StartStop.startstop_printed, Coincidence.coincidence_printed, Image.image_printed}
use Rattle.table_out.specs.{Cube.cube_printed, Fold.fold_printed, Correlation.correlation_printed}

abbrev bench_header : Header
bench_header = record { record_type = HydraHarp2T3; count = Some (pos 9); global = Some 0x3E6AD7F29ABCAF48; resolution = Some 0x3DC19799812DEA11; version = codes "1.0.00" ++ 0 ∷ 0 ∷ [] }

abbrev bench_summary : Summary
bench_summary = record { records = 9; photons = 5; markers = 2; wraps = 2; reserved = 0; late = 0; first = Some 1030; last = Some 2050 }

-- the photons of input 0 are in group 1, and those of input 1 with a dtime below 4096 in group 2
abbrev bench_events : History
bench_events =
    (record { place = 2; kind = Marker 3; time = 1030 }, 0)
    ∷ (record { place = 3; kind = Photon 0 100; time = 1030 }, 1)
    ∷ (record { place = 4; kind = Photon 1 200; time = 1032 }, 2)
    ∷ (record { place = 5; kind = Photon 0 4100; time = 1044 }, 1)
    ∷ (record { place = 6; kind = Photon 1 5000; time = 1045 }, 0)
    ∷ (record { place = 8; kind = Marker 4; time = 2048 }, 0)
    ∷ (record { place = 9; kind = Photon 0 100; time = 2050 }, 1)
    ∷ []

abbrev bench_head : List ℕ
bench_head =
    codes "type HydraHarp2T3\nannounced 9\nglobal 3E6AD7F29ABCAF48\nresolution 3DC19799812DEA11\nrecords 9\nphotons 5\nmarkers 2\nwraps 2\nreserved 0\nlate 0\nfirst 1030\nlast 2050\n"

abbrev bare_header : Header
bare_header = record { record_type = HydraHarp2T3; count = None; global = None; resolution = None; version = codes "1.0.00" ++ 0 ∷ 0 ∷ [] }

-- a photon of input 0 at the time 1, in group 1
abbrev photon : ℕ → ℕ → Event × ℕ
photon place dtime = (record { place = place; kind = Photon 0 dtime; time = 1 }, 1)

abbrev five_photons : History
five_photons = photon 1 0 ∷ photon 2 3 ∷ photon 3 4 ∷ photon 4 7 ∷ photon 5 8 ∷ []

-- a photon of input 0 in group 1
abbrev timed : ℕ → ℕ → Event × ℕ
timed place time = (record { place = place; kind = Photon 0 0; time = time }, 1)

-- the same with a dtime
abbrev delayed : ℕ → ℕ → ℕ → Event × ℕ
delayed place time dtime = (record { place = place; kind = Photon 0 dtime; time = time }, 1)

-- a trace of two bins, from 100 on and below 120
abbrev short_trace : PartSettings
short_trace = TraceSettings (record { group = 1; origin = 100; width = 10; bins = 2 })

-- a start-stop table of two bins, from photons of group 1 to those of group 2
abbrev short_startstop : PartSettings
short_startstop = StartStopSettings (record { start = 1; stop = 2; width = 10; bins = 2 })

-- a photon of input 1 in group 2
abbrev stopping : ℕ → ℕ → Event × ℕ
stopping place time = (record { place = place; kind = Photon 1 0; time = time }, 2)

-- a frame and its first line
abbrev framed : ℕ → ℕ → Event × ℕ
framed place time = (record { place = place; kind = Marker 3; time = time }, 0)

pub rows :
    (report bench_header bench_summary ((HistSettings (record { group = 1; width = 64; bins = 64 }), bench_events) ∷ []) ≡ bench_head
    ++ codes "histogram 1 width 64 bins 64\n1 2\nover 1\n")
    -- a file of no records, and a plan of no tables
    × (report bare_header (record { records = 0; photons = 0; markers = 0; wraps = 0; reserved = 0; late = 0; first = None; last = None }) []
    ≡ codes "type HydraHarp2T3\nannounced -\nglobal -\nresolution -\nrecords 0\nphotons 0\nmarkers 0\nwraps 0\nreserved 0\nlate 0\nfirst -\nlast -\n")
    × (parts_text ((HistSettings (record { group = 1; width = 4; bins = 2 }), five_photons) ∷ []) ≡ codes "histogram 1 width 4 bins 2\n0 2\n1 2\nover 1\n")
    -- Two histograms have the numbers 1 and 2. A cell that is 0 has no line.
    × (parts_text (with_events (HistSettings (record { group = 1; width = 3; bins = 4 }) ∷ HistSettings (record { group = 2; width = 32768; bins = 1 }) ∷ []) (photon 1 0 ∷ photon 2 8 ∷ []))
    ≡ codes "histogram 1 width 3 bins 4\n0 1\n2 1\nover 0\nhistogram 2 width 32768 bins 1\nover 0\n")
    -- two histograms that were given different events
    × (parts_text ((HistSettings (record { group = 1; width = 4; bins = 2 }), five_photons) ∷ (HistSettings (record { group = 1; width = 4; bins = 2 }), photon 1 5 ∷ []) ∷ [])
    ≡ codes "histogram 1 width 4 bins 2\n0 2\n1 2\nover 1\nhistogram 2 width 4 bins 2\n1 1\nover 0\n")
    -- The time 99 is before the origin, 100 and 109 are in the first bin, 110 in the second, 120 and 121 past it.
    × (parts_text ((short_trace, timed 1 99 ∷ timed 2 100 ∷ timed 3 109 ∷ timed 4 110 ∷ timed 5 120 ∷ timed 6 121 ∷ []) ∷ [])
    ≡ codes "trace 1 origin 100 width 10 bins 2\n0 2\n1 1\nbefore 1\nbeyond 2\n")
    -- The intervals are 19 and 20 long; the last stop has no start.
    × (parts_text ((short_startstop, timed 1 100 ∷ stopping 2 119 ∷ timed 3 130 ∷ stopping 4 150 ∷ stopping 5 151 ∷ []) ∷ [])
    ≡ codes "startstop 1 width 10 bins 2\n1 1\nover 1\n")
    -- each kind has numbers of its own
    × (parts_text (with_events (HistSettings (record { group = 1; width = 4; bins = 2 }) ∷ short_trace ∷ short_trace ∷ short_startstop ∷ []) (timed 1 100 ∷ stopping 2 105 ∷ []))
    ≡ codes "histogram 1 width 4 bins 2\n0 1\nover 0\ntrace 1 origin 100 width 10 bins 2\n0 1\nbefore 0\nbeyond 0\ntrace 2 origin 100 width 10 bins 2\n0 1\nbefore 0\nbeyond 0\nstartstop 1 width 10 bins 2\n0 1\nover 0\n")
    -- The two photons at 3 make two pairs of one tick, and each of them two with the one at 4, one in each order.
    × (parts_text ((CoincidenceSettings (record { first = 1; second = 1; reach = 1; width = 1 }), timed 1 3 ∷ timed 2 3 ∷ timed 3 4 ∷ []) ∷ [])
    ≡ codes "coincidence 1 reach 1 width 1\n0 2\n1 2\n2 2\n")
    -- The photons at 100 and 119 are in the first row, and the one at 120 is past the last column.
    × (parts_text ((ImageSettings (record { group = 1; width = 2; height = 2; dwell = 10; line = 1; frame = Some 2; stop = None; serpentine = false }), framed 1 100 ∷ timed 2 100 ∷ timed 3 119 ∷ timed 4 120 ∷ []) ∷ [])
    ≡ codes "image 1 width 2 height 2 dwell 10\n0 0 1\n1 0 1\noutside 1\n")
    -- Two photons of the first pixel have the dtimes 0 and 9, one of the second is past the last bin, and one is past the last column.
    × (parts_text ((CubeSettings (record { image = record { group = 1; width = 2; height = 2; dwell = 10; line = 1; frame = Some 2; stop = None; serpentine = false }; dwidth = 5; dbins = 2 }), framed 1 100 ∷ delayed 2 100 0 ∷ delayed 3 100 9 ∷ delayed 4 119 20 ∷ timed 5 120 ∷ []) ∷ [])
    ≡ codes "cube 1 width 2 height 2 dwell 10 dwidth 5 dbins 2\n0 0 0 1\n0 0 1 1\noutside 1\nover 1\n")
    -- The photon at 0 has the first two groups in its window, that at 3 all three, and the two at 5 the first and the third.
    × (parts_text ((FoldSettings (record { groups = 1 ∷ 2 ∷ 3 ∷ []; window = 3 }), timed 1 0 ∷ stopping 2 3 ∷ (record { place = 3; kind = Photon 3 0; time = 5 }, 4) ∷ timed 4 5 ∷ []) ∷ [])
    ≡ codes "fold 1 window 3 sets 8\n3 1\n5 2\n7 1\n")
    -- Level 0 has the lags 1 and 2, and level 1 the lag 2 alone.
    × (parts_text ((CorrelationSettings (record { first = 1; second = 1; lags = 2; levels = 2 }), timed 1 0 ∷ timed 2 1 ∷ timed 3 3 ∷ timed 4 4 ∷ []) ∷ [])
    ≡ codes "correlation 1 lags 2 levels 2\n0 1 2\n0 2 1\n1 2 2\n")
unfolding report head_text histogram_printed hexadecimal digits trace_printed startstop_printed
    coincidence_printed image_printed cube_printed fold_printed correlation_printed
rows = (refl, refl, refl, refl, refl, refl, refl, refl, refl, refl, refl, refl, refl)
