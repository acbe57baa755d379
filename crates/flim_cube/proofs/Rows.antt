-- The definitions at known events.
use Rattle.{std.proofs.Common.{◌≡◌, ℕ, refl, false, [], ◌∷◌, None, Some}, tally_base.specs.declared.event.{Event.Event, EventKind.TheVariants.{Photon, Marker}}}
use Rattle.{tally_base.specs.{Settings.CubeView, Tally.History}, scan_image.specs.ImageCounts.{count_outside, in_all_cells}, flim_cube.specs.CubeCounts.in_cell}
use Rattle.flim_cube.specs.CubeCounts.{count_over, in_whole_cube}

-- A photon of the first group with this dtime, and a marker of all groups.
abbrev photon : ℕ → ℕ → Event × ℕ
photon time dtime = (record { place = 1; kind = Photon 0 dtime; time = time }, 1)

abbrev marker : ℕ → ℕ → Event × ℕ
marker time bits = (record { place = 1; kind = Marker bits; time = time }, 15)

-- Two columns and two rows of dwell 10, two bins of 5 ticks.
abbrev small : CubeView
small = record
    { image = record { group = 1; width = 2; height = 2; dwell = 10; line = 1; frame = Some 2; stop = None; serpentine = false }; dwidth = 5; dbins = 2 }

-- A frame and a line in one marker. In the first pixel dtimes of each bin and one past the last, one in the second, and one after the line.
abbrev scanned : History
scanned = marker 100 3 ∷ photon 100 0 ∷ photon 100 9 ∷ photon 100 10 ∷ photon 110 4 ∷ photon 120 0 ∷ []

row-first_bin : in_cell small 0 0 0 scanned ≡ 1
row-first_bin = refl

row-last_bin : in_cell small 0 0 1 scanned ≡ 1
row-last_bin = refl

row-second_pixel : in_cell small 1 0 0 scanned ≡ 1
row-second_pixel = refl

row-empty : in_cell small 1 0 1 scanned ≡ 0
row-empty = refl

row-over : count_over small scanned ≡ 1
row-over = refl

row-outside : count_outside small.image scanned ≡ 1
row-outside = refl

row-whole : in_whole_cube small scanned ≡ 3
row-whole = refl

row-image : in_all_cells small.image scanned ≡ 4
row-image = refl
