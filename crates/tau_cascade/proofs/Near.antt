-- Bins of one index that are neighbours, as they are and merged.
use Rattle.std.proofs.Common.{◌≡◌, ◌^◌, ◌&&◌, length-append, ◌/◌, ℕ, ◌+◌, ◌-◌, ◌<◌, ◌≤◌, Bool, true, false, cond, eqb, leb, List, [], ◌∷◌, ◌++◌, length, map}
use Rattle.std.proofs.{Common.{take, drop, get_or, refl, sym, ap, ◌∙◌, arith, rules}, lemmas.{Bool.Decides.nat_tests, List.{take_rest, take-append-drop}}}
use Rattle.std.proofs.lemmas.List.{take-append-le, drop-map, length-drop, length-map, get_or-drop, get_or-map, Sums.{sum_by_push, count_by-le-length}}
use Rattle.std.{proofs.{lemmas.List.Sums.length-filter, Props.props, Math.{Logic.∥∥₁_elim, Nat.mul-le-mul_left}}, specs.List.{sum_by, count_by, filter}}
use Rattle.{std.specs.List.AllByRecursion, lag_ring.specs.{declared.ring.Entry.Entry, Ring.{Ring, ring, IsRising, IsInReach, weight_where}, Cells.Cells}}
use Rattle.lag_ring.{specs.Cells.added_at, proofs.{Lists.all_passed, Rising.{all_weaker, filter_passed, rising-prop}, Sums.sum_by-filter}}
use Rattle.{tally_base.specs.{Settings.CorrelationView, Tally.History}, tau_cascade.proofs.{Close.no_bin, Gridded.keeps_dense, Paired.{all_rising, cells_all}}}
use Rattle.tau_cascade.{proofs.Keeping.{last_of, follow_upto, ring_all, kept_is}, specs.Correlation.{Given, bin, skipped_lags, in_first, in_second}}
use Rattle.tau_cascade.specs.{Levels.{weight_before, RingIs, CellsAre}, Dense.{paired, paired_from}, Bins.{raised, both_of, merged, merged_all, kept_of}}
use Rattle.tau_cascade.specs.{Bins.{stretch, FitCounts, IsSpaced, Follow, CanShutAll}, declared.grid.Grid.Grid, Grid.{Stands, kept_and}}

-- Pairs with what is before count by its weights alone.
paired_same : (k : ℕ) (before other es : List Entry) → ((n : ℕ) → weight_before k n before ≡ weight_before k n other) → paired k before es ≡ paired k other es
paired_same k before other [] same = refl
paired_same k before other (e ∷ es) same =
    rw (same e.index, paired_same k (before ++ e ∷ []) (other ++ e ∷ []) es (λ n. rw (sum_by_push (λ (f : Entry). cond (eqb (f.index + k) n) f.a 0) before e, sum_by_push (λ (f : Entry). cond (eqb (f.index + k) n) f.a 0) other e, same n) refl)) refl

-- bins of one index pair with none of their own
paired_both : (k : ℕ) → 0 < k → (before fs : List Entry) (e f : Entry) → e.index ≡ f.index → paired k before (both_of e f ∷ fs) ≡ paired k before (e ∷ f ∷ fs)
paired_both k some before fs e f same =
    let rest = paired_same k (before ++ both_of e f ∷ []) ((before ++ e ∷ []) ++ f ∷ []) fs (λ n. search (rules, arith, sum_by_push)) in
    search (rules, arith, rest, sum_by_push, nat_tests)

paired_one : (k : ℕ) → 0 < k → (before : List Entry) (e : Entry) (es : List Entry) → paired k before (merged e es) ≡ paired k before (e ∷ es)
paired_one k some before e [] = refl
paired_one k some before e (f ∷ fs) = search (rules, arith, paired_both, paired_one k some before (both_of e f) fs, paired_one k some (before ++ e ∷ []) f fs)

-- merged bins pair as they do one by one
pub paired_merged : (k : ℕ) → 0 < k → (before es : List Entry) → paired k before (merged_all es) ≡ paired k before es
paired_merged k some before es = search (rules, arith, paired_one, some)

-- the merged bins from an index on are those from it on, merged
kept_one : (before : ℕ) (e : Entry) (es : List Entry) → IsSpaced 0 (e ∷ es)
    → filter (λ f. leb before f.index) (merged e es) ≡ merged_all (filter (λ f. leb before f.index) (e ∷ es))
kept_one before e [] spaced = search (rules, arith)
kept_one before e (f ∷ fs) spaced = search (rules, arith, kept_one before (both_of e f) fs, kept_one before f fs spaced.1)

-- the first of the merged bins has the index of the first one, and the last that of the last
pub end_one : (e : Entry) (es : List Entry) → (f : Entry) × (fs : List Entry) × (merged e es ≡ f ∷ fs) × (f.index ≡ e.index) × (last_of f.index fs ≡ last_of e.index es)
end_one e [] = (e, [], refl, refl, refl)
end_one e (f ∷ fs) = (elim (eqb e.index f.index) as (λ b. eqb e.index f.index ≡ b → (g : Entry) × (gs : List Entry) × (cond b (merged (both_of e f) fs) (e ∷ merged f fs) ≡ g ∷ gs) × (g.index ≡ e.index) × (last_of g.index gs ≡ last_of f.index fs)) [
  | true ↦ λ one. let rest = end_one (both_of e f) fs in (rest.0, rest.1, rest.2, rest.3, rest.4 ∙ ap (λ n. last_of n fs) (grind arith))
  | false ↦ λ two. let rest = end_one f fs in (e, rest.0 ∷ rest.1, ap (λ ys. e ∷ ys) rest.2, refl, rest.4)
]) refl

-- rising entries before the bins are not merged
merged_behind : (rs es : List Entry) (f : Entry) (fs : List Entry) → merged_all es ≡ f ∷ fs → IsRising rs → AllByRecursion (λ r. r.index < f.index) rs → merged_all (rs ++ es) ≡ rs ++ merged_all es
merged_behind [] es f fs is rising below = refl
merged_behind (r ∷ []) [] f fs is rising below = refl
merged_behind (r ∷ []) (e ∷ es) f fs is rising below = (let end = end_one e es in search (rules, arith, end))
merged_behind (r ∷ s ∷ rs) es f fs is rising below = search (rules, arith, merged_behind (s ∷ rs) es f fs is rising.1 below.1)

module _ (before levels n : ℕ) (bins : List Entry) (spaced : IsSpaced 0 (map (raised levels) bins))
    (left : AllByRecursion (λ e. e.index < before) (take n (map (raised levels) bins)))
    (kept : AllByRecursion (λ e. before ≤ e.index) (drop n (map (raised levels) bins))) where
  abbrev up : List Entry
  up = map (raised levels) bins

  abbrev from : Entry → Bool
  from e = leb before e.index

  -- the bins that are not before the index are those from a place on
  pub kept_bins : filter from up ≡ map (raised levels) (drop n bins)
  kept_bins = kept_is before n up left kept ∙ drop-map (raised levels) n bins

  -- they are laid in a list, to be merged there: those of all merged ones that are not before it
  pub laid_kept : (was : List Entry) (end' : ℕ) → take end' was ≡ take (length bins - n) (drop n bins) → merged_all (map (raised levels) (take end' was)) ≡ filter from (merged_all up)
  laid_kept was end' laid = search (rules, arith, laid, take_rest, up, kept_one, kept_bins)

-- what stands at the front of a list that was written there
pub take_front : (n : ℕ) (new rest : List Entry) → n ≤ length new → take n (new ++ rest) ≡ take n new
take_front n new rest few = take-append-le n new rest few

last_read : (e : Entry) (es : List Entry) → (get_or (e ∷ es) (length es) no_bin).index ≡ last_of e.index es
last_read e [] = refl
last_read e (f ∷ fs) = last_read f fs

merged_end : (es : List Entry) → 0 < length es
    → (f : Entry) × (fs : List Entry) × (merged_all es ≡ f ∷ fs) × (last_of f.index fs ≡ (get_or es (length es - 1) no_bin).index)
merged_end [] some = absurd (omega arith)
merged_end (e ∷ es) some =
    let end = end_one e es in
    let count : length (e ∷ es) - 1 ≡ length es = omega arith in
    (end.0, end.1, end.2, rw (count, last_read e es) end.4)

-- What the bins of a list from a place on do, so many levels up, that are closed as merged ones, and what is kept of them.

-- a list after the ring's entries, and the first index that the ring keeps
pub record Standing (set : CorrelationView) (level skipped : ℕ) (r : Ring) (levels start : ℕ) (list : List Entry) (before : ℕ) : Type 0 where
  pub skips : skipped ≡ skipped_lags set level
  pub lags : 0 < set.lags
  pub inside : start < length list
  pub front : take start (map (raised levels) list) ≡ r.entries
  pub last : before ≡ (get_or list (length list - 1) no_bin).index / 2 ^ levels - (set.lags - 1)

module _ {set : CorrelationView} {level skipped : ℕ} {r : Ring} {levels start : ℕ} {list : List Entry} {before : ℕ} (at' : Standing set level skipped r levels start list before) (cells : Cells) where
  abbrev bins : List Entry
  bins = drop start (map (raised levels) list)

  abbrev whole : List Entry
  whole = merged_all bins

  abbrev from' : Entry → Bool
  from' e = leb before e.index

  end' : (f : Entry) × (fs : List Entry) × (whole ≡ f ∷ fs) × (last_of f.index fs ≡ (get_or list (length list - 1) no_bin).index / 2 ^ levels)
  end' =
      let read = get_or-map (raised levels) list (length list - 1) no_bin no_bin in
      let end = merged_end bins (omega (arith, at'.inside, length-drop start (map (raised levels) list), length-map list (raised levels))) in
      (end.0, end.1, end.2, end.3 ∙ search (rules, arith, read, get_or-drop, length-drop, length-map))

  module _ (closed xs : History) (can : CanShutAll set level r cells whole closed xs) where
    follow : Follow set level closed (end'.0 ∷ end'.1) xs
    follow = (rw end'.2 at can.bins)

    -- with the ring's entries before them
    merged_whole : merged_all (map (raised levels) list) ≡ r.entries ++ whole
    merged_whole =
        let parts : map (raised levels) list ≡ r.entries ++ bins = rw (← at'.front) (sym (take-append-drop start (map (raised levels) list))) in
        ap merged_all parts ∙ merged_behind r.entries bins end'.0 end'.1 end'.2 can.ring.rising (can.ring.keeps.bounded _ follow.4)

    pub cells_near : (new : Cells) → ((p : ℕ) → p < set.lags - skipped → get_or new.cells p 0 ≡ get_or cells.cells p 0 + paired_from start (p + skipped + 1) (map (raised levels) list))
        → length new.cells ≡ length cells.cells → new.added ≤ cells.added + (set.lags - skipped)
        → ((p : ℕ) → added_at new p ≤ added_at cells p + 1) → CellsAre set level new (closed ++ xs)
    cells_near new pairs same added each =
        let long : 1 ≤ length whole = rw end'.2 (omega arith) in
        let more = mul-le-mul_left (set.lags - skipped) long in
        cells_all set level skipped at'.skips r cells whole closed xs can new
        (λ p inside. pairs p inside ∙ ap (λ n. get_or cells.cells p 0 + n) (rw at'.front (sym (paired_merged (p + skipped + 1) (omega arith) r.entries bins))))
        same (omega (arith, added, more)) (λ p. omega (arith, each p, long))

    ring_near : RingIs set level (ring (filter (λ e. leb before e.index) (r.entries ++ whole)) r.reach) (closed ++ xs)
    ring_near = rw (at'.last, ← end'.3, end'.2) (ring_all set level at'.lags end'.0 end'.1 r closed xs can.ring follow (rw end'.2 at (all_rising set level skipped at'.skips r cells whole closed xs can)))

    -- all photons are in reach of what is kept
    in_reach : IsInReach (bin level) r.reach (λ i. leb before i) (closed ++ xs)
    in_reach = λ i passes.
        let from : before ≤ i = grind arith in
        all_weaker (λ x. bin level x ≤ last_of end'.0.index end'.1) (λ x. bin level x < i + r.reach) (λ x upto. omega (arith, at'.last, end'.3, can.ring.reach, at'.lags)) (closed ++ xs)
        (follow_upto set level end'.0 end'.1 closed xs follow)

    fits : (weight : Entry → ℕ) (mine : Given → Bool) → weight_where weight (λ i. leb before i) (filter from' (r.entries ++ whole)) ≡ count_by (λ x. mine x && leb before (bin level x)) (closed ++ xs) → sum_by weight (filter from' (r.entries ++ whole)) < 2 ^ 64
    fits weight mine is =
        let few = count_by-le-length (λ x. mine x && leb before (bin level x)) (closed ++ xs) in
        omega (arith, ap (sum_by weight) (filter_passed from' (filter from' (r.entries ++ whole)) (all_passed from' (r.entries ++ whole))), sum_by-filter from' weight (filter from' (r.entries ++ whole)), is, few, length-append closed xs, can.few)

    -- what is kept of the whole list
    pub keeps_near : FitCounts (kept_of before levels list) × RingIs set level (ring (kept_of before levels list) r.reach) (closed ++ xs)
    keeps_near = rw merged_whole (
      (fits (λ e. e.a) (in_first set) (ring_near.keeps.firsts (λ i. leb before i) in_reach), fits (λ e. e.b) (in_second set) (ring_near.keeps.seconds (λ i. leb before i) in_reach)),
      ring_near,
    )

    -- and of the bins of a grid
    pub dense_near : (g : Grid) (place : ℕ) → Stands g bins → place ≡ before - g.base → RingIs set level (ring (kept_and before r.entries g place) r.reach) (closed ++ xs)
    dense_near g place stands is = (keeps_dense g bins before place is stands set level r (closed ++ xs) ring_near (in_reach before (grind (arith, nat_tests)))).2

  -- the same where some photons stand
  module _ (stands : ∥ ((closed : History) × (xs : History) × CanShutAll set level r cells whole closed xs) ∥₁) where
    pub keeps_stand : FitCounts (kept_of before levels list) × IsRising (kept_of before levels list) × (length (kept_of before levels list) ≤ r.reach)
    keeps_stand =
        let prop = rising-prop (kept_of before levels list) in
        ∥∥₁_elim stands (hlevel (props, prop)) (λ w. let kept = keeps_near w.0 w.1 w.2 in (kept.0, kept.1.rising, kept.1.keeps.within))

    pub dense_stands : (g : Grid) (place : ℕ) → Stands g bins → place ≡ before - g.base → IsRising (kept_and before r.entries g place) × (length (kept_and before r.entries g place) ≤ r.reach) × (length r.entries ≤ set.lags)
    dense_stands g place on is =
        let prop = rising-prop (kept_and before r.entries g place) in
        ∥∥₁_elim stands (hlevel (props, prop)) (λ w. let kept = dense_near w.0 w.1 w.2 g place on is in (kept.rising, kept.keeps.within, omega (arith, w.2.ring.keeps.within, w.2.ring.reach)))

-- entries that are not before an index are no more than all
pub fewer : (before : ℕ) (es : List Entry) → length (filter (λ e. leb before e.index) es) ≤ length es
fewer before es = omega (arith, length-filter (λ e. leb before e.index) es, count_by-le-length (λ e. leb before e.index) es)
