-- The definitions at known events.
use Rattle.{std.proofs.Common.{◌≡◌, ℕ, refl, false, true, [], ◌∷◌, Option, None, Some}, tally_base.specs.declared.event.Event.Event}
use Rattle.{tally_base.specs.{declared.event.EventKind.TheVariants.{Photon, Marker}, Settings.ImageView, Tally.History}, scan_image.specs.ImageCounts.in_cell}
use Rattle.scan_image.specs.ImageCounts.{count_outside}

-- A photon of these groups, and a marker.
abbrev photon : ℕ → ℕ → Event × ℕ
photon time groups = (record { place = 1; kind = Photon 0 0; time = time }, groups)

abbrev marker : ℕ → ℕ → Event × ℕ
marker time bits = (record { place = 1; kind = Marker bits; time = time }, 0)

-- Line bit 1 and frame bit 2.
abbrev framed : Option ℕ → ImageView
framed stop = record { group = 1; width = 2; height = 2; dwell = 10; line = 1; frame = Some 2; stop = stop; serpentine = false }

-- A frame and a line in one marker, a photon in each column of that line, and one after the last.
abbrev together : History
together = marker 100 3 ∷ photon 100 1 ∷ photon 119 1 ∷ photon 120 1 ∷ []

row-first_column : in_cell (framed None) 0 0 together ≡ 1
row-first_column = refl

row-last_column : in_cell (framed None) 1 0 together ≡ 1
row-last_column = refl

row-empty : in_cell (framed None) 0 1 together ≡ 0
row-empty = refl

row-behind : count_outside (framed None) together ≡ 1
row-behind = refl

-- A photon before any line, and one after a stop.
abbrev stopped : History
stopped = photon 5 1 ∷ marker 10 3 ∷ marker 12 4 ∷ photon 13 1 ∷ []

row-stopped : count_outside (framed (Some 3)) stopped ≡ 2
row-stopped = refl

row-no_cell : in_cell (framed (Some 3)) 0 0 stopped ≡ 0
row-no_cell = refl

-- Without a frame bit the rows begin again after the last.
abbrev unframed : ImageView
unframed = record { group = 1; width = 1; height = 2; dwell = 10; line = 1; frame = None; stop = None; serpentine = false }

abbrev three_lines : History
three_lines = marker 0 1 ∷ photon 0 1 ∷ marker 10 1 ∷ photon 10 1 ∷ marker 20 1 ∷ photon 20 1 ∷ []

row-row_0 : in_cell unframed 0 0 three_lines ≡ 2
row-row_0 = refl

row-row_1 : in_cell unframed 0 1 three_lines ≡ 1
row-row_1 = refl

row-all_inside : count_outside unframed three_lines ≡ 0
row-all_inside = refl

-- The first column of an odd row is the last of a serpentine image.
abbrev serpentine : ImageView
serpentine = record { group = 1; width = 3; height = 2; dwell = 10; line = 1; frame = None; stop = None; serpentine = true }

abbrev there_and_back : History
there_and_back = marker 0 1 ∷ photon 0 1 ∷ marker 30 1 ∷ photon 30 1 ∷ photon 60 1 ∷ []

row-there : in_cell serpentine 0 0 there_and_back ≡ 1
row-there = refl

row-back : in_cell serpentine 2 1 there_and_back ≡ 1
row-back = refl

row-not_forwards : in_cell serpentine 0 1 there_and_back ≡ 0
row-not_forwards = refl

row-behind_the_row : count_outside serpentine there_and_back ≡ 1
row-behind_the_row = refl

-- Photons of other groups count nowhere.
abbrev of_others : History
of_others = photon 0 2 ∷ marker 10 1 ∷ photon 10 2 ∷ photon 10 0 ∷ photon 10 3 ∷ []

row-own : in_cell unframed 0 0 of_others ≡ 1
row-own = refl

row-other : count_outside unframed of_others ≡ 0
row-other = refl
