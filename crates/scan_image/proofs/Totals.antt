-- Each photon of the group counts once.
use Rattle.std.proofs.Common.{◌≡◌, ◌∙◌, ℕ, ◌+◌, ◌-◌, ◌<◌, Bool, ◌&&◌, cond, eqb, ltb, List, [], ◌∷◌, ◌++◌, refl, ap, sym, subst, append_assoc, arith, None}
use Rattle.std.{proofs.{Common.{Some, is_none, sum_by, rules}, lemmas.List.{append-nil, Sums.sum_by_push}}, specs.declared.option.Option.Option}
use Rattle.{std.specs.List.range_with_len, tally_base.{proofs.Sums.{sum_same, sum_plus, sum_none, in_range}, specs.declared.event.Event.Event}}
use Rattle.tally_base.specs.{declared.event.EventKind.{EventKind, TheVariants.{Photon, Marker}}, Events.{is_photon, is_photon_kind, is_in}, Settings.ImageView}
use Rattle.{tally_base.specs.Tally.{History, photons_of_group}, scan_image.specs.{Places.{Mark, column_in, place_of}, ImageCounts.{markers, is_at, in_cell}}}
use Rattle.scan_image.{specs.{ImageCounts.{count_outside, in_all_cells}, Pushed.one_if}, proofs.Counts.{met-photon, met-marker}}

-- a place is inside the image
abbrev pub Inside : ImageView → Option (ℕ × ℕ) → Type 0
Inside set None = Unit {0}
Inside set (Some place) = (place.0 < set.width) × (place.1 < set.height)

turned : (width steps : ℕ) (back : Bool) → steps < width → cond back (width - 1 - steps) steps < width
turned width steps back low = search (rules, arith)

tested : (set : ImageView) (steps row : ℕ) (test : Bool) → (ltb steps set.width && ltb row set.height) ≡ test
    → Inside set (cond test (Some (column_in set row steps, row)) None)
tested set steps row test is = search (rules, arith, turned)

pub place-inside : (set : ImageView) (time : ℕ) (ms : List Mark) → Inside set (place_of set time ms)
place-inside set time ms = search (rules, arith, tested)

-- a sum over the pixels of an image
abbrev pub over_pixels : ImageView → (ℕ → ℕ → ℕ) → ℕ
over_pixels set f = sum_by (λ y. sum_by (λ x. f x y) (range_with_len 0 set.width)) (range_with_len 0 set.height)

pub pixels-agree : (set : ImageView) (f g : ℕ → ℕ → ℕ) → ((x y : ℕ) → f x y ≡ g x y) → over_pixels set f ≡ over_pixels set g
pixels-agree set f g same = search (rules, arith, sum_same)

pub pixels-plus : (set : ImageView) (f g : ℕ → ℕ → ℕ) → over_pixels set (λ x y. f x y + g x y) ≡ over_pixels set f + over_pixels set g
pixels-plus set f g =
    sum_same (λ y. sum_by (λ x. f x y + g x y) (range_with_len 0 set.width)) (λ y. sum_by (λ x. f x y) (range_with_len 0 set.width) + sum_by (λ x. g x y) (range_with_len 0 set.width)) (λ y. sum_plus (λ x. f x y) (λ x. g x y) (range_with_len 0 set.width)) (range_with_len 0 set.height)
    ∙ sum_plus (λ y. sum_by (λ x. f x y) (range_with_len 0 set.width)) (λ y. sum_by (λ x. g x y) (range_with_len 0 set.width)) (range_with_len 0 set.height)

pub pixels-none : (set : ImageView) → over_pixels set (λ x y. 0) ≡ 0
pixels-none set = search (rules, arith, sum_same, sum_none)

both : (a b : Bool) (n : ℕ) → cond (a && b) n 0 ≡ cond a (cond b n 0) 0
both a b n = search (rules, arith)

-- A pixel of the image is met once.
pub met-count : (set : ImageView) (place : ℕ × ℕ) (n : ℕ) → Inside set (Some place) → over_pixels set (λ x y. cond (is_at x y (Some place)) n 0) ≡ n
met-count set place n inside =
    let row : (y : ℕ) → sum_by (λ x. cond (is_at x y (Some place)) n 0) (range_with_len 0 set.width) ≡ cond (eqb place.1 y) n 0 =
    λ y. sum_same (λ x. cond (is_at x y (Some place)) n 0) (λ x. cond (eqb place.0 x) (cond (eqb place.1 y) n 0) 0)
    (λ x. both (eqb place.0 x) (eqb place.1 y) n) (range_with_len 0 set.width)
    ∙ in_range place.0 0 set.width (cond (eqb place.1 y) n 0) (omega arith) (omega (arith, inside.0)) in
    sum_same (λ y. sum_by (λ x. cond (is_at x y (Some place)) n 0) (range_with_len 0 set.width))
    (λ y. cond (eqb place.1 y) n 0) row (range_with_len 0 set.height) ∙ in_range place.1 0 set.height n (omega arith) (omega (arith, inside.1))

pub cells-more : (set : ImageView) (h later : History) (more : ℕ → ℕ → ℕ)
    → ((x y : ℕ) → in_cell set x y later ≡ in_cell set x y h + more x y) → in_all_cells set later ≡ in_all_cells set h + over_pixels set more
cells-more set h later more is =
    pixels-agree set (λ x y. in_cell set x y later) (λ x y. in_cell set x y h + more x y) is ∙ pixels-plus set (λ x y. in_cell set x y h) more

-- A place is met in one pixel, and no place in none.
met-once : (set : ImageView) (place : Option (ℕ × ℕ)) (n : ℕ) → Inside set place
    → over_pixels set (λ x y. cond (is_at x y place) n 0) + cond (is_none place) n 0 ≡ n
met-once set None n inside = omega (arith, pixels-none set)
met-once set (Some place) n inside = omega (arith, met-count set place n inside)

-- what is to be shown of the events
abbrev pub Total : ImageView → History → Type 0
Total set h = in_all_cells set h + count_outside set h ≡ photons_of_group set.group h

total-push : (set : ImageView) (h : History) (x : Event × ℕ) (kind : EventKind) → x.0.kind ≡ kind → Total set h → Total set (h ++ x ∷ [])
total-push set h x (Photon input dtime) kind so_far =
    let place = place_of set x.0.time (markers h) in
    let more = cond (is_in x.1 set.group) 1 0 in
    let cells = cells-more set h (h ++ x ∷ []) (λ column row. cond (is_at column row place) more 0)
    (λ column row. met-photon set (λ place dtime. is_at column row place) h x place input dtime more kind refl refl) in
    let once = met-once set place more (place-inside set x.0.time (markers h)) in
    let photons = sum_by_push (λ x. one_if (is_photon x.0 && is_in x.1 set.group)) h x in
    let here : one_if (is_photon x.0 && is_in x.1 set.group) ≡ more = ap (λ kind. one_if (is_photon_kind kind && is_in x.1 set.group)) kind in
    omega (arith, so_far, cells, met-photon set (λ place dtime. is_none place) h x place input dtime more kind refl refl, once, photons, here)
total-push set h x (Marker bits) kind so_far =
    let cells = pixels-agree set (λ x' y. in_cell set x' y (h ++ x ∷ [])) (λ x' y. in_cell set x' y h)
    (λ column row. met-marker set (λ place dtime. is_at column row place) h x bits kind) in
    let outside = met-marker set (λ place dtime. is_none place) h x bits kind in
    let photons = sum_by_push (λ x. one_if (is_photon x.0 && is_in x.1 set.group)) h x in
    search (rules, arith)

pub by-pushes : (P : History → Type 0) → ((h : History) (x : Event × ℕ) → P h → P (h ++ x ∷ [])) → (front rest : History) → P front → P (front ++ rest)
by-pushes P step front [] so_far = subst P (sym (append-nil front)) so_far
by-pushes P step front (x ∷ rest) so_far = subst P (append_assoc front (x ∷ []) rest) (by-pushes P step (front ++ x ∷ []) rest (step front x so_far))

pub total : (set : ImageView) (h : History) → Total set h
total set h = by-pushes (Total set) (λ h x. total-push set h x x.0.kind refl) [] h (omega (arith, pixels-none set))
