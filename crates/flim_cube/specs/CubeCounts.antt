-- The counts of a cube over the events that it is given, and their sums.
use Rattle.std.specs.{Prelude.{ℕ, Bool, false, ◌&&◌, ◌==◌, nat_le, ◌/◌, Option, None, Some, sum_by}, List.range_with_len}
use Rattle.{tally_base.specs.{Settings.CubeView, Tally.History}, scan_image.specs.ImageCounts.{count_met, is_at}}

-- the place is column x and row y, and the bin is this one
abbrev pub is_in_cell : ℕ → ℕ → ℕ → Option (ℕ × ℕ) → ℕ → Bool
is_in_cell x y b place bin = is_at x y place && (bin == b)

-- there is a place, and the bin is after the last
abbrev pub is_over : ℕ → Option (ℕ × ℕ) → ℕ → Bool
is_over bins None bin = false
is_over bins (Some place) bin = nat_le bins bin

-- how many photons of the group have their place in column x and row y and their dtime in bin b
abbrev pub in_cell : CubeView → ℕ → ℕ → ℕ → History → ℕ
in_cell set x y b h = count_met set.image (λ place dtime. is_in_cell x y b place (dtime / set.dwidth)) h

-- how many photons of the group have a place, and a dtime past the last bin
abbrev pub count_over : CubeView → History → ℕ
count_over set h = count_met set.image (λ place dtime. is_over set.dbins place (dtime / set.dwidth)) h

-- the sum over the bins of a pixel
abbrev pub in_pixel : CubeView → ℕ → ℕ → History → ℕ
in_pixel set x y h = sum_by (λ b. in_cell set x y b h) (range_with_len 0 set.dbins)

-- the sum over all pixels, row by row
abbrev pub in_whole_cube : CubeView → History → ℕ
in_whole_cube set h = sum_by (λ y. sum_by (λ x. in_pixel set x y h) (range_with_len 0 set.image.width)) (range_with_len 0 set.image.height)
