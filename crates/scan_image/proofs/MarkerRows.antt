-- The definitions at known markers.
use Rattle.{std.proofs.Common.{◌≡◌, ℕ, refl, false, true, List, [], ◌∷◌, Option, None, Some, nat_le}, tally_base.specs.Settings.ImageView}
use Rattle.scan_image.specs.Places.{last_that, until_last, behind_last, from_last, Mark, mark, greatest_time, place_of}

row-until : until_last (nat_le 5) (1 ∷ 7 ∷ 2 ∷ 6 ∷ 3 ∷ []) ≡ 1 ∷ 7 ∷ 2 ∷ 6 ∷ []
row-until = refl

row-behind : behind_last (nat_le 5) (1 ∷ 7 ∷ 2 ∷ 6 ∷ 3 ∷ []) ≡ 3 ∷ []
row-behind = refl

row-from : from_last (nat_le 5) (1 ∷ 7 ∷ 2 ∷ 6 ∷ 3 ∷ []) ≡ 6 ∷ 3 ∷ []
row-from = refl

row-last : last_that (nat_le 5) (1 ∷ 7 ∷ 2 ∷ 6 ∷ 3 ∷ []) ≡ Some 6
row-last = refl

row-until_none : until_last (nat_le 9) (1 ∷ 7 ∷ []) ≡ []
row-until_none = refl

row-behind_none : behind_last (nat_le 9) (1 ∷ 7 ∷ []) ≡ 1 ∷ 7 ∷ []
row-behind_none = refl

row-from_none : from_last (nat_le 9) (1 ∷ 7 ∷ []) ≡ []
row-from_none = refl

-- Line bit 1 and frame bit 2.
abbrev framed : Option ℕ → ImageView
framed stop = record { group = 1; width = 2; height = 2; dwell = 10; line = 1; frame = Some 2; stop = stop; serpentine = false }

-- A frame and a line in one marker: the line is row 0 of that frame.
abbrev together : List Mark
together = mark 3 100 ∷ []

row-first_column : place_of (framed None) 100 together ≡ Some (0, 0)
row-first_column = refl

row-last_column : place_of (framed None) 119 together ≡ Some (1, 0)
row-last_column = refl

row-behind_columns : place_of (framed None) 120 together ≡ None
row-behind_columns = refl

-- before any line, and after a stop
row-no_line : place_of (framed (Some 3)) 5 [] ≡ None
row-no_line = refl

row-stopped : place_of (framed (Some 3)) 13 (mark 3 10 ∷ mark 4 12 ∷ []) ≡ None
row-stopped = refl

-- The stop bit counts for nothing where the plan names none.
row-unnamed : place_of (framed None) 13 (mark 3 10 ∷ mark 4 12 ∷ []) ≡ Some (0, 0)
row-unnamed = refl

-- A line before any frame has no row, and the second line of a frame has row 1.
row-no_frame : place_of (framed None) 10 (mark 1 10 ∷ []) ≡ None
row-no_frame = refl

row-second : place_of (framed None) 31 (mark 1 0 ∷ mark 2 5 ∷ mark 1 10 ∷ mark 1 20 ∷ []) ≡ Some (1, 1)
row-second = refl

-- A frame after a line leaves its row, and the next line is row 0.
row-frame_in_line : place_of (framed None) 29 (mark 3 10 ∷ mark 1 20 ∷ mark 2 25 ∷ []) ≡ Some (0, 1)
row-frame_in_line = refl

row-frame_behind_line : place_of (framed None) 30 (mark 3 10 ∷ mark 1 20 ∷ mark 2 25 ∷ mark 1 30 ∷ []) ≡ Some (0, 0)
row-frame_behind_line = refl

-- A stop ends a line and not the frame.
row-line_behind_stop : place_of (framed (Some 3)) 30 (mark 3 10 ∷ mark 4 15 ∷ mark 1 30 ∷ []) ≡ Some (0, 1)
row-line_behind_stop = refl

-- A marker with the stop bit and the line bit ends a line and begins one.
row-stop_and_line : place_of (framed (Some 3)) 30 (mark 3 10 ∷ mark 5 30 ∷ []) ≡ Some (0, 1)
row-stop_and_line = refl

-- A third line is below the image.
row-below : place_of (framed None) 30 (mark 3 10 ∷ mark 1 20 ∷ mark 1 30 ∷ []) ≡ None
row-below = refl

-- Without a frame bit the rows begin again after the last.
abbrev unframed : ImageView
unframed = record { group = 1; width = 1; height = 2; dwell = 10; line = 1; frame = None; stop = None; serpentine = false }

row-first : place_of unframed 0 (mark 1 0 ∷ []) ≡ Some (0, 0)
row-first = refl

row-next : place_of unframed 10 (mark 1 0 ∷ mark 1 10 ∷ []) ≡ Some (0, 1)
row-next = refl

row-again : place_of unframed 20 (mark 1 0 ∷ mark 1 10 ∷ mark 1 20 ∷ []) ≡ Some (0, 0)
row-again = refl

-- Every second row runs backwards: its first column is the last of the image.
abbrev serpentine : ImageView
serpentine = record { group = 1; width = 3; height = 2; dwell = 10; line = 1; frame = None; stop = None; serpentine = true }

row-forwards : place_of serpentine 29 (mark 1 0 ∷ []) ≡ Some (2, 0)
row-forwards = refl

row-backwards : place_of serpentine 30 (mark 1 0 ∷ mark 1 30 ∷ []) ≡ Some (2, 1)
row-backwards = refl

row-last_backwards : place_of serpentine 59 (mark 1 0 ∷ mark 1 30 ∷ []) ≡ Some (0, 1)
row-last_backwards = refl

row-behind_backwards : place_of serpentine 60 (mark 1 0 ∷ mark 1 30 ∷ []) ≡ None
row-behind_backwards = refl

row-greatest : greatest_time (mark 1 0 ∷ mark 2 10 ∷ []) ≡ 10
row-greatest = refl
