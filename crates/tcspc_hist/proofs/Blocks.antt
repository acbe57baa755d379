-- The counts over the rows of a block.
use Rattle.std.proofs.Common.{◌≡◌, ◌∙◌, ℕ, zero, suc, ◌+◌, ◌<◌, ◌≤◌, Bool, true, false, ◌&&◌, cond, ◌++◌, List, [], ◌∷◌, length, take, drop, map, filter}
use Rattle.std.proofs.{Common.{get_or, count_by, ap, sym, subst, refl, arith, nat_lt, if◌then◌else◌, rules}, lemmas.{Grind.take_at_read, List.map-append}}
use Rattle.std.{proofs.{lemmas.List.{length-take-le, take-append-le, Sums.{sum_by-append, sum_by_push}}, Math.Seq.take-append-add}, specs.List.range_with_len}
use Rattle.tally_base.specs.{declared.{event.{Event.Event, EventKind.TheVariants.{Photon, Marker}}, block.Block.Block}, Events.is_in, Codes.dtime_in}
use Rattle.tally_base.{specs.{Settings.HistView, Tally.History, Columns.{rows, item, mark_at, code_at, dtime_at, groups_at}}, proofs.BlockRows.more_rows}
use Rattle.{lane_decode.proofs.Chosen.place-more, tcspc_hist.specs.{HistogramCounts.{count_dtimes, dtime_passes}, Picked.{has_photon, photon_marks}}}

none_either : (b : Bool) → ◌≡◌ {A = ℕ} 0 (if b then 0 else 0)
none_either true = refl
none_either false = refl

passes : (set : HistView) (test : ℕ → Bool) (group photon : Bool) (input dtime bits : ℕ) → ◌≡◌ {A = ℕ} (cond (group && dtime_passes test (if photon then Photon input dtime else Marker bits)) 1 0) (if test dtime then (if group && photon then 1 else 0) else 0)
passes set test true true input dtime bits = refl
passes set test true false input dtime bits = none_either (test dtime)
passes set test false true input dtime bits = none_either (test dtime)
passes set test false false input dtime bits = none_either (test dtime)

pub count-append : (set : HistView) (test : ℕ → Bool) (h m : History) → count_dtimes set test (h ++ m) ≡ count_dtimes set test h + count_dtimes set test m
count-append set test h m = sum_by-append (λ (x : Event × ℕ). cond (is_in x.1 set.group && dtime_passes test x.0.kind) 1 0) h m

-- one row more
pub count-row : (set : HistView) (test : ℕ → Bool) {N : ℕ} (b : Block N) (n : ℕ) → count_dtimes set test (rows (item b) (n + 1)) ≡ count_dtimes set test (rows (item b) n) + (if test (dtime_at b n) then (if is_in (groups_at b n) set.group && nat_lt (code_at b n) 256 then 1 else 0) else 0)
count-row set test b n = search (rules, arith, more_rows, sum_by_push)

pub one_at_most : (b : Bool) → (if b then 1 else 0) ≤ 1
one_at_most b = search (rules, arith)

-- one number more that is taken
pub count-taken : (p : ℕ → Bool) (xs : List ℕ) (n : ℕ) → n < length xs → count_by p (take (n + 1) xs) ≡ count_by p (take n xs) + (if p (get_or xs n 0) then 1 else 0)
count-taken p xs n lt =
    ap (count_by p) (take_at_read xs n 0 lt).1 ∙ sum_by_push (λ x. cond (p x) 1 0) (take n xs) (get_or xs n 0)

-- the photons that were picked
pub count-picked : (set : HistView) (test : ℕ → Bool) {N : ℕ} (b : Block N) (n : ℕ) → count_by (λ mark. test (dtime_in mark)) (photon_marks set.group b n) ≡ count_dtimes set test (rows (item b) n)
count-picked set test b zero = refl
count-picked set test b (suc n) =
    let next : suc n ≡ n + 1 = omega arith in
    let f = has_photon set.group b in
    let more : photon_marks set.group b (n + 1) ≡ photon_marks set.group b n ++ map (mark_at b) (cond (f n) (n ∷ []) []) =
    ap (map (mark_at b)) (place-more f n) ∙ map-append (mark_at b) (filter f (range_with_len 0 n)) (cond (f n) (n ∷ []) []) in
    subst (λ k. count_by (λ mark. test (dtime_in mark)) (photon_marks set.group b k) ≡ count_dtimes set test (rows (item b) k)) (sym next)
    (ap (count_by (λ mark. test (dtime_in mark))) more ∙ sum_by-append (λ mark. cond (test (dtime_in mark)) 1 0) (photon_marks set.group b n) (map (mark_at b) (cond (f n) (n ∷ []) []))
    ∙ omega (arith, count-picked set test b n, count-row set test b n, one (f n)))
  where
    one : (found : Bool) → count_by (λ mark. test (dtime_in mark)) (map (mark_at b) (cond found (n ∷ []) [])) ≡ (if test (dtime_at b n) then (if found then 1 else 0) else 0)
    one true = search (rules, arith)
    one false = search (rules, arith)

-- the front of numbers, by the places that they come from
pub front-by : (h : ℕ → ℕ) (zs ks : List ℕ) → length ks ≤ length zs → ((j : ℕ) → j < length ks → get_or zs j 0 ≡ h (get_or ks j 0)) → take (length ks) zs ≡ map h ks
front-by h zs [] few same = refl
front-by h [] (k ∷ ks) few same = absurd (omega (arith, few))
front-by h (z ∷ zs) (k ∷ ks) few same =
    let first : z ≡ h k = same 0 (omega arith) in
    let rest = front-by h zs ks (omega (arith, few)) (λ j lt. same (suc j) (omega (arith, lt))) in
    rw (first, rest) refl

-- eight numbers put after those that stay
pub front-put : (xs zs : List ℕ) (n m : ℕ) → length zs ≡ 8 → n + 8 ≤ length xs → m ≤ 8 → take (n + m) (take n xs ++ (zs ++ drop (n + 8) xs)) ≡ take n xs ++ take m zs
front-put xs zs n m long room few =
    let here : n ≡ length (take n xs) = sym (length-take-le n xs (omega (arith, room))) in
    ap (λ k. take (k + m) (take n xs ++ (zs ++ drop (n + 8) xs))) here ∙ take-append-add (take n xs) (zs ++ drop (n + 8) xs) m
    ∙ ap (λ l. take n xs ++ l) (take-append-le m zs (drop (n + 8) xs) (omega (arith, long, few)))
