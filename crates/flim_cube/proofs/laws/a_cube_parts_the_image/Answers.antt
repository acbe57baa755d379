use Rattle.std.proofs.Common.{◌≡◌, ◌∙◌, ℕ, ◌+◌, ◌/◌, Bool, true, false, ◌&&◌, cond, eqb, ltb, [], ◌∷◌, ◌++◌, refl, arith, None, Some, sum_by, nat_le, rules}
use Rattle.std.{proofs.lemmas.{Grind.common_steps, Bool.Decides.nat_tests}, specs.{declared.option.Option.Option, List.range_with_len}}
use Rattle.tally_base.{proofs.Sums.{sum_same, sum_plus, sum_none, in_range, behind_range}, specs.declared.event.{Event.Event, EventKind.EventKind}}
use Rattle.tally_base.specs.{declared.event.EventKind.TheVariants.{Photon, Marker}, Events.is_in, Settings.CubeView, Tally.History}
use Rattle.scan_image.{specs.{Places.place_of, ImageCounts.{markers, is_at, in_cell, in_all_cells}}, proofs.{Counts.{met-photon, met-marker}, Totals.Inside}}
use Rattle.scan_image.proofs.Totals.{place-inside, by-pushes, over_pixels, pixels-agree, pixels-plus, pixels-none, met-count, cells-more}
use Rattle.flim_cube.specs.CubeCounts.{is_in_cell, is_over, count_over, in_cell as in_bin, in_pixel, in_whole_cube}
use Rattle.flim_cube.proofs.laws.a_cube_parts_the_image.Goals as goal

-- the bins of a cube and what is past them add up to the image
met-bin : (bins bin more : ℕ) (inside : Bool) → ltb bin bins ≡ inside → sum_by (λ b. cond (eqb bin b) more 0) (range_with_len 0 bins) ≡ cond inside more 0
met-bin bins bin more inside is = search (rules, arith, in_range, behind_range)

-- A bin is met once in a pixel, unless it is after the last.
met-bins : (bins bin more : ℕ) (at : Bool) → sum_by (λ b. cond (at && eqb bin b) more 0) (range_with_len 0 bins) ≡ cond at (cond (ltb bin bins) more 0) 0
met-bins bins bin more true = met-bin bins bin more (ltb bin bins) refl
met-bins bins bin more false = sum_none (range_with_len 0 bins)

in-or-over : (bins bin more : ℕ) → cond (ltb bin bins) more 0 + cond (nat_le bins bin) more 0 ≡ more
in-or-over bins bin more = grind (arith, common_steps, nat_tests)

-- what is to be shown of the events
abbrev Total : CubeView → History → Type 0
Total set h = in_whole_cube set h + count_over set h ≡ in_all_cells set.image h

-- A photon adds to a bin or past the last what it adds to the image.
parts : (set : CubeView) (place : Option (ℕ × ℕ)) (bin more : ℕ) → Inside set.image place → over_pixels set.image (λ x y. cond (is_at x y place) (cond (ltb bin set.dbins) more 0) 0) + cond (is_over set.dbins place bin) more 0 ≡ over_pixels set.image (λ x y. cond (is_at x y place) more 0)
parts set None bin more inside = omega (arith, pixels-none set.image)
parts set (Some place) bin more inside =
    omega (arith, met-count set.image place (cond (ltb bin set.dbins) more 0) inside, met-count set.image place more inside, in-or-over set.dbins bin more)

whole-more : (set : CubeView) (h later : History) (more : ℕ → ℕ → ℕ → ℕ) → ((x y b : ℕ) → in_bin set x y b later ≡ in_bin set x y b h + more x y b)
    → in_whole_cube set later ≡ in_whole_cube set h + over_pixels set.image (λ x y. sum_by (λ b. more x y b) (range_with_len 0 set.dbins))
whole-more set h later more is =
    pixels-agree set.image (λ x y. in_pixel set x y later) (λ x y. in_pixel set x y h + sum_by (λ b. more x y b) (range_with_len 0 set.dbins)) (λ x y. sum_same (λ b. in_bin set x y b later) (λ b. in_bin set x y b h + more x y b) (λ b. is x y b) (range_with_len 0 set.dbins) ∙ sum_plus (λ b. in_bin set x y b h) (λ b. more x y b) (range_with_len 0 set.dbins))
    ∙ pixels-plus set.image (λ x y. in_pixel set x y h) (λ x y. sum_by (λ b. more x y b) (range_with_len 0 set.dbins))

total-push : (set : CubeView) (h : History) (x : Event × ℕ) (kind : EventKind) → x.0.kind ≡ kind → Total set h → Total set (h ++ x ∷ [])
total-push set h x (Photon input dtime) kind so_far =
    let place = place_of set.image x.0.time (markers h) in
    let bin = dtime / set.dwidth in
    let more = cond (is_in x.1 set.image.group) 1 0 in
    let whole = whole-more set h (h ++ x ∷ []) (λ column row b. cond (is_in_cell column row b place bin) more 0) (λ column row b. met-photon set.image (λ place dtime. is_in_cell column row b place (dtime / set.dwidth)) h x place input dtime more kind refl refl) in
    let bins = pixels-agree set.image (λ column row. sum_by (λ b. cond (is_in_cell column row b place bin) more 0) (range_with_len 0 set.dbins)) (λ column row. cond (is_at column row place) (cond (ltb bin set.dbins) more 0) 0) (λ column row. met-bins set.dbins bin more (is_at column row place)) in
    let over = met-photon set.image (λ place dtime. is_over set.dbins place (dtime / set.dwidth)) h x place input dtime more kind refl refl in
    let image = cells-more set.image h (h ++ x ∷ []) (λ column row. cond (is_at column row place) more 0)
    (λ column row. met-photon set.image (λ place dtime. is_at column row place) h x place input dtime more kind refl refl) in
    let part = parts set place bin more (place-inside set.image x.0.time (markers h)) in
    omega (arith, so_far, whole, bins, over, image, part)
total-push set h x (Marker bits) kind so_far =
    let whole = pixels-agree set.image (λ column row. in_pixel set column row (h ++ x ∷ [])) (λ column row. in_pixel set column row h) (λ column row. sum_same (λ b. in_bin set column row b (h ++ x ∷ [])) (λ b. in_bin set column row b h) (λ b. met-marker set.image (λ place dtime. is_in_cell column row b place (dtime / set.dwidth)) h x bits kind) (range_with_len 0 set.dbins)) in
    let over = met-marker set.image (λ place dtime. is_over set.dbins place (dtime / set.dwidth)) h x bits kind in
    let image = pixels-agree set.image (λ column row. in_cell set.image column row (h ++ x ∷ [])) (λ column row. in_cell set.image column row h) (λ column row. met-marker set.image (λ place dtime. is_at column row place) h x bits kind) in
    omega (arith, so_far, whole, over, image)

total-none : (set : CubeView) → Total set []
total-none set = search (rules, arith, pixels-agree, sum_none, pixels-none)

total : (set : CubeView) (h : History) → Total set h
total set h = by-pushes (Total set) (λ h x. total-push set h x x.0.kind refl) [] h (total-none set)

pub returns : goal.returns
returns c = total
