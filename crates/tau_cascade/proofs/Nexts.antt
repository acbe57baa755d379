-- The pairs of one bin more with the bins before it.
use Rattle.{lag_ring.{specs.declared.ring.Entry.Entry, proofs.Sums.sum_by-zero}, tau_cascade.specs.{Levels.weight_before, Dense.{paired, paired_from}}}
use Rattle.{tau_cascade.specs.Bins.raised, std.proofs.Common.{length, ◌≡◌, ℕ, [], ◌∷◌, drop, refl, ◌+◌, ◌-◌, ◌*◌, ◌/◌, ◌^◌, ◌<◌, ◌≤◌, eqb, List, get_or, map}}
use Rattle.std.proofs.{Common.{take, cond, arith, rules, ◌++◌, append_assoc, append-nil, take-add, subst}, lemmas.List.{get_or-take, get_or-drop, take-map}}
use Rattle.std.proofs.lemmas.List.{drop-map, length-drop, get_or-map, length-map, drop_more, take-take, drop_all, length-take-le, Sums.sum_by_more}
use Rattle.std.specs.List.{AllByRecursion}

-- the pairs of one bin more with those before an index, some levels up
pub weight_more : (bins : List Entry) (levels i : ℕ) (none : Entry) → i < length bins → (k n w : ℕ)
    → weight_before k n (take (i + 1) (map (raised levels) bins)) * w ≡ weight_before k n (take i (map (raised levels) bins)) * w
    + cond (eqb ((get_or bins i none).index / 2 ^ levels + k) n) ((get_or bins i none).a * w) 0
weight_more bins levels i none inside k n w =
    let e : Entry = raised levels (get_or bins i none) in
    let more = sum_by_more (λ (f : Entry). cond (eqb (f.index + k) n) f.a 0) (map (raised levels) bins) i none (rw (length-map bins (raised levels)) inside) in
    rw (more, get_or-map (raised levels) bins i none none inside) (grind arith)

-- where each entry stands before the index by more than the lags, none stands at one
pub none_at_lag : (es : List Entry) (lags n k : ℕ) → AllByRecursion (λ f. f.index + lags < n) es → k ≤ lags → weight_before k n es ≡ 0
none_at_lag es lags n k far few = search (rules, arith, sum_by-zero)

-- what two lists add
pub paired-append : (lag : ℕ) (before es fs : List Entry) → paired lag before (es ++ fs) ≡ paired lag before es + paired lag (before ++ es) fs
paired-append lag before [] fs = rw (append-nil before) (omega arith)
paired-append lag before (e ∷ es) fs = search (rules, arith, e, append_assoc, paired-append lag (before ++ e ∷ []) es fs)

-- the entries before a place, parted at an earlier one
pub take_parts : (es : List Entry) (from at : ℕ) → from ≤ at → take at es ≡ take from es ++ take (at - from) (drop from es)
take_parts es from at within = subst (λ m. take m es ≡ take from es ++ take (at - from) (drop from es)) (omega arith) (take-add from (at - from) es)

-- what the first of the bins from a place on adds, some levels up, after some of those before it
pub paired_first : (levels : ℕ) (list : List Entry) (from at' end' : ℕ) (none : Entry) → from ≤ at' → at' < end' → end' ≤ length list → (k : ℕ)
    → paired_from (at' - from) k (map (raised levels) (take (end' - from) (drop from list)))
    ≡ weight_before k ((get_or list at' none).index / 2 ^ levels) (map (raised levels) (take (at' - from) (drop from list))) * (get_or list at' none).b
    + paired k (map (raised levels) (take (at' - from) (drop from list)) ++ raised levels (get_or list at' none) ∷ [])
    (map (raised levels) (drop (at' - from + 1) (take (end' - from) (drop from list))))
paired_first levels list from at' end' none within more inside k =
    let es : List Entry = drop from list in
    let q : ℕ = at' - from in
    let n : ℕ = end' - from in
    let there : from + q ≡ at' = omega arith in
    let long : q < length (take n es) = omega (arith, length-take-le n es (omega (arith, length-drop from list))) in
    let first : drop q (take n es) ≡ get_or list at' none ∷ drop (q + 1) (take n es) =
    rw (drop_more (take n es) q none long, get_or-take n es q none (omega arith), get_or-drop from list q none, there) refl in
    rw (take-map (raised levels) q (take n es), drop-map (raised levels) q (take n es), take-take q n es (omega arith), first) refl

-- before the first bin nothing is added
pub none_paired : (k start : ℕ) (before list : List Entry) → start ≤ length list → paired k before (drop start (take start list)) ≡ 0
none_paired k start before list inside = rw (drop_all start (take start list) (omega (arith, length-take-le start list inside))) refl
