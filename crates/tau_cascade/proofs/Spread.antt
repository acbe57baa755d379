-- Bins that come to a level and stay where they are in their list, the open bin before them.
use Rattle.std.proofs.Common.{rules, ◌≡◌, ◌≢◌, ℕ, zero, suc, ◌+◌, ◌-◌, ◌*◌, ◌^◌, ◌<◌, ◌≤◌, Option, Some, List, [], ◌∷◌, ◌++◌, length, map, take, drop, set}
use Rattle.std.proofs.{Common.{get_or, refl, sym, ap, subst, ◌∙◌, append_assoc, append-nil, length-append, arith}, Math.Seq.{take-nil, take-append-add}}
use Rattle.std.proofs.{Math.{Seq.{take-append_seam, drop-append_seam}, Nat.{div-mul-le_self, mul-le-mul_right}, Logic.∥∥₁_elim}, Props.props}
use Rattle.std.proofs.lemmas.{Nat.shl-shr, List.{take_more, take_more_set, map_push, drop-set-add, drop-drop, length-drop, length-take-le, take-append-drop}}
use Rattle.std.proofs.lemmas.List.{map-append, drop-map, take-map, take-take, drop-take, Sums.{sum_by-cons, sum_by-take-drop, count_by-le-length}}
use Rattle.{std.specs.{List.{sum_by, AllByRecursion, AllByRecursion-prop}, Bool.⊤}, tally_base.specs.{Settings.CorrelationView, Tally.History}}
use Rattle.{tally_base.specs.Limits.record_limit, lag_ring.specs.{declared.ring.Entry.Entry, Pairings.{Paired, paired_by}, Ring.{Ring, IsRising}}}
use Rattle.{lag_ring.proofs.{Lists.{all_back, all_join, of_some}, Rising.all_weaker}, tau_cascade.specs.{declared.level.Level.Level, Correlation.bin}}
use Rattle.tau_cascade.specs.{Correlation.{in_first, in_second}, Work.occupied, Levels.{IsBin, OpenIs, RingIs, ClosedAre, PairsMore}, Bins.{raised, onto}}
use Rattle.tau_cascade.specs.Bins.{merged_all, FitCounts, stretch, IsSpaced, IsCut, StandBefore, Come, Follow, CanShutAll, Shuts, CanTake, Took, ComeAlike}
use Rattle.tau_cascade.{specs.Bins.near, proofs.{Paired.occupied_all, Few.near_put, Follows.{rest_at, merged_follow, come_weigh, come_merged, stretch_more}}}
use Rattle.tau_cascade.proofs.Passes.{spaced_upto, far_place, spaced-rising, spaced_behind, spaced_take, spaced_nearer}
use native.Mathlib.Numerals.{unary_clauses}

-- The entries of a list before others, so many levels down.

-- lists that are the same from a place on are so from a later one on
pub same_behind : (xs ys : List Entry) (at' from : ℕ) → at' ≤ from → drop at' xs ≡ drop at' ys → drop from xs ≡ drop from ys
same_behind xs ys at' from behind same =
    (let there : at' + (from - at') ≡ from = omega arith in rw (← there, ← drop-drop, ← drop-drop, same) refl)

-- one more is put down
pub lower_more : (levels start i : ℕ) (entries list : List Entry) (e none : Entry) → i < length entries → start + i < length list
    → e ≡ record { index = (get_or entries i none).index * 2 ^ levels; a = (get_or entries i none).a; b = (get_or entries i none).b }
    → map (raised levels) (take i (drop start list)) ≡ take i entries → map (raised levels) (take (i + 1) (drop start (set list (start + i) e))) ≡ take (i + 1) entries
lower_more levels start i entries list e none inside room is so_far =
    let long : i < length (drop start list) = omega (arith, length-drop start list) in
    rw (drop-set-add start list i e, take_more_set (drop start list) i e long, map_push, so_far, take_more entries i none inside, is, shl-shr) refl

-- all are, and those after them stay
pub lower_done : (levels start from : ℕ) (entries list was : List Entry) → start + length entries ≡ from
    → map (raised levels) (take (length entries) (drop start list)) ≡ entries → drop from list ≡ drop from was
    → map (raised levels) (drop start list) ≡ entries ++ map (raised levels) (drop from was)
lower_done levels start from entries list was place front behind =
    rw (← take-append-drop (length entries) (drop start list), map-append, front, drop-drop, place, behind) refl

-- entries before others, which stand before the rest
pub stand_both : {levels from at' start : ℕ} {fs rs es was mid new : List Entry} → fs ++ rs ≡ es → StandBefore levels from rs was mid at' → StandBefore levels at' fs mid new start → StandBefore levels from es was new start
stand_both {levels} {from} {at'} {start} {fs} {rs} {es} {was} {mid} {new} is one two = record {
  place = omega (arith, one.place, two.place, length-append fs rs, ap length is);
  bins = rw (two.bins, one.bins, ← is) (sym (append_assoc fs rs _));
  behind = same_behind new mid at' from (omega (arith, one.place)) two.behind ∙ one.behind;
}

-- The last of sorted bins, and those of its index.

-- where one is before an index, those before it are too
pub spaced_before : (es : List Entry) (i n : ℕ) (none : Entry) → IsSpaced 0 es → i < length es → (get_or es i none).index < n → AllByRecursion (λ e. e.index < n) (take (suc i) es)
spaced_before es i n none spaced inside below =
    all_weaker (λ e. e.index + 0 < n) (λ e. e.index < n) (λ e under. omega arith) (take (suc i) es) (far_place 0 n i es none inside spaced (omega arith))

-- where a bin has another index than those after it, all up to it are before these
pub cut_before : (es : List Entry) (i n : ℕ) (none : Entry) → IsSpaced 0 es → suc i < length es → AllByRecursion (λ e. e.index ≡ n) (drop (suc i) es) → (get_or es i none).index ≢ n → AllByRecursion (λ e. e.index < n) (take (suc i) es)
cut_before [] i n none sorted inside here other = absurd (omega (arith, inside))
cut_before (e ∷ []) i n none sorted inside here other = absurd (omega (arith, inside))
cut_before (e ∷ f ∷ es) zero n none sorted inside here other = (omega (arith, sorted.0.0, here.0, other), tt)
cut_before (e ∷ f ∷ es) (suc i) n none sorted inside here other =
    (let rest = cut_before (f ∷ es) i n none sorted.1 (omega (arith, inside)) here other in (omega (arith, sorted.0.0, rest.0), rest))

-- the bins from a place on, and the one before them
module _ (levels closed : ℕ) (bins : List Entry) (none : Entry) (some : 0 < closed) (inside : closed < length bins) where
  pub cut_more : map (raised levels) (drop (closed - 1) bins) ≡ raised levels (get_or bins (closed - 1) none) ∷ map (raised levels) (drop closed bins)
  cut_more = search (rules, arith, rest_at)

  -- the weights of that one and of those after it, which are among those of all
  pub cut_sum : (f : Entry → ℕ) → f (raised levels (get_or bins (closed - 1) none)) + sum_by f (map (raised levels) (drop closed bins)) ≡ sum_by f (map (raised levels) (drop (closed - 1) bins))
  cut_sum f = sym (ap (sum_by f) cut_more ∙ sum_by-cons f (raised levels (get_or bins (closed - 1) none)) (map (raised levels) (drop closed bins)))

  pub cut_within : (f : Entry → ℕ) → f (raised levels (get_or bins (closed - 1) none)) + sum_by f (map (raised levels) (drop closed bins)) ≤ sum_by f (map (raised levels) bins)
  cut_within f = omega (arith, cut_sum f, sum_by-take-drop f (map (raised levels) bins) (closed - 1), ap (sum_by f) (drop-map (raised levels) (closed - 1) bins))

-- The open bin before those that come.

-- a list's bins from a place on, after the open one
onto_take : (o : Option Entry) (es : List Entry) (m count : ℕ) → m ≡ length (onto o []) + count → take m (onto o es) ≡ onto o (take count es)
onto_take o es m count is = search (rules, arith)

pub onto_few : (o : Option Entry) → length (onto o []) ≤ 1
onto_few o = search (rules, arith)

onto_front : (o : Option Entry) (es : List Entry) → onto o es ≡ onto o [] ++ es
onto_front o es = search (rules, arith)

-- a list that is so far apart up to one entry, and from that one on
spaced_seam : (d i k : ℕ) (es : List Entry) → 0 < k → IsSpaced d (take (suc i) es) → IsSpaced d (take k (drop i es)) → IsSpaced d (take (k + i) es)
spaced_seam d zero k es some upto on = simp unary_clauses on
spaced_seam d (suc i) zero es some upto on = absurd (omega arith)
spaced_seam d (suc i) (suc k) [] some upto on = simp unary_clauses tt
spaced_seam d (suc i) (suc k) (e ∷ []) some upto on = simp unary_clauses (rw (take-nil {A = Entry} (suc k + i)) tt, rw (take-nil {A = Entry} (suc k + i)) tt)
spaced_seam d (suc i) (suc k) (e ∷ f ∷ es) some upto on =
    let one : suc k + i ≡ suc (k + i) = omega arith in
    let rest = spaced_seam d i (suc k) (f ∷ es) some upto.1 on in
    simp unary_clauses (rw one (spaced_behind d e.index f (take (k + i) es) upto.0.0 (rw one at rest)), rest)

-- the same of a stretch of a list
pub seam : (d least start mid n : ℕ) (list : List Entry) → least ≤ d → start ≤ mid → 0 < n → IsSpaced least (take (mid + 1 - start) (drop start list))
    → IsSpaced d (take n (drop mid list)) → IsSpaced least (take (mid + n - start) (drop start list))
seam d least start mid n list less order some upto on =
    let one : mid + 1 - start ≡ suc (mid - start) = omega arith in
    let there : start + (mid - start) ≡ mid = omega arith in
    let size : mid + n - start ≡ n + (mid - start) = omega arith in
    rw size (spaced_seam least (mid - start) n (drop start list) some (rw one at upto) (rw (drop-drop, there) (spaced_nearer d least (take n (drop mid list)) less on)))

-- The open bin of a level stands before those that came, in the same list.
pub record IsPut (levels first count : ℕ) (l : Level) (was new : List Entry) (from : ℕ) : Type 0 where
  pub some : 0 < count
  pub inside : first + count ≤ length new
  pub before : StandBefore levels first (onto l.open []) was new from

module _ {levels first count : ℕ} {l : Level} {was new : List Entry} {from : ℕ} (put : IsPut levels first count l was new from) where
  abbrev pub here : List Entry
  here = take (first + count - from) (drop from new)

  abbrev all : List Entry
  all = onto l.open (stretch first count levels was)

  pub all_here : map (raised levels) here ≡ all
  all_here =
      let ups : List Entry = map (raised levels) (drop first was) in
      rw (← take-map, put.before.bins, ← onto_front l.open ups, onto_take l.open ups (first + count - from) count (omega (arith, put.before.place)), take-map) refl

  pub long : length here ≡ first + count - from
  long = length-take-le (first + count - from) (drop from new) (omega (arith, length-drop from new, put.inside))

  -- those that came are after the open bin
  pub came_here : drop (first - from) here ≡ take count (drop first was)
  came_here =
      let size : first - from + count ≡ first + count - from = omega (arith, put.before.place) in
      let there : from + (first - from) ≡ first = omega (arith, put.before.place) in
      subst (λ m. drop (first - from) (take m (drop from new)) ≡ take count (drop first was)) size (rw (drop-take, drop-drop, there, put.before.behind) refl)

  -- what is cut off after them
  module _ (n : ℕ) (few : n < length here) where
    pub upto : n ≤ first + count - from
    upto = omega (arith, few, long)

    -- those before it
    pub front_here : stretch from n levels new ≡ take n all
    front_here = rw (← all_here, take-map, take-take n (first + count - from) (drop from new) upto) refl

    -- as far apart as those that came, and the first two
    pub apart_closed : (d least : ℕ) → least ≤ d → IsSpaced d (take count (drop first was)) → IsSpaced least (take (first + 1 - from) (drop from new)) → IsSpaced least (take n (drop from new))
    apart_closed d least less came upto' =
        let all' = seam d least from first count new less (omega (arith, put.before.place)) put.some upto' (rw put.before.behind came) in
        rw (← take-take n (first + count - from) (drop from new) upto) (spaced_take least n here all')

    -- and near as those that came, but for one
    pub near_closed : (d most : ℕ) → near d (take count (drop first was)) ≤ most → near d (take n (drop from new)) ≤ most + 1
    near_closed d most few' = search (rules, arith, onto_few, near_put, upto)

-- The entries of a ring stand before closed bins, in the same list.
module _ {levels from start : ℕ} {rs list new : List Entry} (n : ℕ) (put : StandBefore levels from rs list new start) where
  pub ring_here : map (raised levels) (take (from + n - start) (drop start new)) ≡ rs ++ stretch from n levels list
  ring_here = (let size : from + n - start ≡ length rs + n = omega (arith, put.place) in rw (← take-map, put.bins, size, take-append-add, take-map) refl)

  pub ring_parts : (take (from - start) (map (raised levels) (take (from + n - start) (drop start new))) ≡ rs) × (drop (from - start) (map (raised levels) (take (from + n - start) (drop start new))) ≡ stretch from n levels list)
  ring_parts = (let size : from - start ≡ length rs = omega (arith, put.place) in rw (ring_here, size) (take-append_seam rs (stretch from n levels list), drop-append_seam rs (stretch from n levels list)))

-- rising entries before sorted bins
pub spaced_join : (rs : List Entry) (e : Entry) (es : List Entry) → IsRising rs → AllByRecursion (λ r. r.index < e.index) rs → IsSpaced 0 (e ∷ es) → IsSpaced 0 (rs ++ e ∷ es)
spaced_join [] e es rising below spaced = spaced
spaced_join (r ∷ rs) e es rising below spaced = search (rules, arith, all_join, all_weaker, spaced_behind, spaced_join rs e es rising.1 below.1 spaced)

-- where no bin is closed, a level stays as it is
pub shuts_none : (set : CorrelationView) (level : ℕ) (l : Level) → Shuts set level l l []
shuts_none set level l = search (rules, arith, append-nil)

module _ (set : CorrelationView) (level : ℕ) where
  -- these photons are before the first of some bins
  abbrev IsBefore : History → List Entry → Type 0
  IsBefore closed [] = ⊤
  IsBefore closed (e ∷ es) = AllByRecursion (λ x. bin level x < e.index) closed

  before_onto : (o : Option Entry) (es : List Entry) (closed open' : History) → OpenIs set level o closed open' → IsBefore closed (onto o es)
  before_onto o es closed open' is = search (rules, arith)

  -- the open bin comes before those that come
  come_onto : (o : Option Entry) (es : List Entry) (closed open' xs : History) → OpenIs set level o closed open' → Come set level (closed ++ open') es xs → Come set level closed (onto o es) (open' ++ xs)
  come_onto o es closed open' xs is come = search (rules, arith, all_weaker)

  -- the first of bins that come, and those after them
  come_split : (es fs : List Entry) (came xs : History) → Come set level came (es ++ fs) xs → (front : History) × (back : History) × (xs ≡ front ++ back) × Come set level came es front × Come set level (came ++ front) fs back
  come_split [] fs came xs come = ([], xs, refl, refl, rw append-nil come)
  come_split (e ∷ es) fs came xs come =
      let rest = come_split es fs (came ++ come.0) come.1 come.5 in
      (come.0 ++ rest.0, rest.1, come.2 ∙ ap (λ ys. come.0 ++ ys) rest.2 ∙ sym (append_assoc come.0 rest.0 rest.1), (come.0, rest.0, refl, come.3, come.4, rest.3), rw (← append_assoc came come.0 rest.0) rest.4)

  come_fit : (es : List Entry) (came xs : History) → length xs ≤ record_limit → Come set level came es xs → FitCounts es
  come_fit es came xs few come = (
    omega (arith, come_weigh set level (λ e. e.a) (in_first set) (λ e run is. is.a) es came xs come, count_by-le-length (in_first set) xs),
    omega (arith, come_weigh set level (λ e. e.b) (in_second set) (λ e run is. is.b) es came xs come, count_by-le-length (in_second set) xs),
  )

  -- what holds of the index of each bin holds of that of each photon
  come_all : (P : ℕ → Type 0) (es : List Entry) (came xs : History) → AllByRecursion (λ e. P e.index) es → Come set level came es xs → AllByRecursion (λ x. P (bin level x)) xs
  come_all P [] came xs all come = rw come tt
  come_all P (e ∷ es) came xs all come = search (rules, arith, all_join, all_weaker, come_all P es (came ++ come.0) come.1 all.1 come.5)

  -- bins of one index are together the bin of their photons
  one_bin : (es : List Entry) (last : Entry) (came xs : History) → 0 < length es → AllByRecursion (λ e. e.index ≡ last.index) es
      → last.a ≡ sum_by (λ e. e.a) es → last.b ≡ sum_by (λ e. e.b) es → Come set level came es xs → IsBin set level last xs
  one_bin [] last came xs some here a b come = absurd (omega arith)
  one_bin (e ∷ es) last came xs some here a b come = record {
    some = omega (arith, ap length come.2, length-append come.0 come.1, come.3.some);
    here = come_all (λ n. n ≡ last.index) (e ∷ es) came xs here come;
    a = a ∙ come_weigh set level (λ e. e.a) (in_first set) (λ e run is. is.a) (e ∷ es) came xs come;
    b = b ∙ come_weigh set level (λ e. e.b) (in_second set) (λ e run is. is.b) (e ∷ es) came xs come;
  }

  -- bins that come do not fall
  come_sorted : (es : List Entry) (came xs : History) → Come set level came es xs → IsSpaced 0 es
  come_sorted [] came xs come = tt
  come_sorted (e ∷ []) came xs come = (tt, tt)
  come_sorted (e ∷ f ∷ es) came xs come =
      let rest = come_sorted (f ∷ es) (came ++ come.0) come.1 come.5 in
      let upto = of_some (bin level) e.index (λ n. n ≤ f.index) come.0 come.3.some come.3.here (all_back (λ x. bin level x ≤ f.index) came come.0 come.5.4) in
      (spaced_behind 0 e.index f es (omega arith) rest, rest)

  -- after the ring of what is closed too
  ring_sorted : (r : Ring) (es : List Entry) (closed xs : History) → RingIs set level r closed → IsBefore closed es → Come set level closed es xs → IsSpaced 0 (r.entries ++ es)
  ring_sorted r [] closed xs is before come = rw append-nil (spaced-rising r.entries is.rising)
  ring_sorted r (e ∷ es) closed xs is before come = spaced_join r.entries e es is.rising (is.keeps.bounded e.index before) (come_sorted (e ∷ es) closed xs come)

  -- merged, such bins follow what is closed
  merged_comes : (es : List Entry) (closed xs : History) → IsBefore closed es → Come set level closed es xs → Follow set level closed (merged_all es) xs
  merged_comes es closed xs before come = search (rules, arith, merged_follow)

  -- and before the last of them
  before_last : (es : List Entry) (n : ℕ) (last : Entry) (closed : History) → IsCut es n last → IsBefore closed es → AllByRecursion (λ x. bin level x < last.index) closed
  before_last [] n last closed cut before = absurd (omega (arith, cut.few))
  before_last (e ∷ es) zero last closed cut before = rw cut.here.0 at before
  before_last (e ∷ es) (suc n) last closed cut before = search (rules, arith, all_weaker)

-- Photons come to a level in these bins.
module _ {set : CorrelationView} {level : ℕ} {l : Level} {es : List Entry} {closed open' xs : History} (can : CanTake set level l es closed open' xs) where
  pub all_come : Come set level closed (onto l.open es) (open' ++ xs)
  all_come = come_onto set level l.open es closed open' xs can.was.opened can.come

  behind : IsBefore set level closed (onto l.open es)
  behind = before_onto set level l.open es closed open' can.was.opened

  pub sorted : IsSpaced 0 (l.ring.entries ++ onto l.open es)
  sorted = ring_sorted set level l.ring (onto l.open es) closed (open' ++ xs) can.was.has.ring behind all_come

  pub here_sorted : IsSpaced 0 (onto l.open es)
  here_sorted = come_sorted set level (onto l.open es) closed (open' ++ xs) all_come

  pub weights_fit : FitCounts (onto l.open es)
  weights_fit = come_fit set level (onto l.open es) closed (open' ++ xs) (omega (arith, can.few, length-append open' xs)) all_come

  -- all of them may be closed
  pub shut_all : CanShutAll set level l.ring l.cells (merged_all (onto l.open es)) closed (open' ++ xs)
  shut_all = record {
    few = omega (arith, can.few, length-append open' xs);
    ring = can.was.has.ring;
    cells = can.was.has.cells;
    bins = merged_comes set level (onto l.open es) closed (open' ++ xs) behind all_come;
  }

  pub merged_fit : FitCounts (merged_all (onto l.open es))
  merged_fit = come_fit set level (merged_all (onto l.open es)) closed (open' ++ xs) (omega (arith, can.few, length-append open' xs)) (come_merged set level (onto l.open es) closed (open' ++ xs) all_come)

  module _ {n : ℕ} {last : Entry} (is : IsCut (onto l.open es) n last) where
    abbrev front : List Entry
    front = take n (onto l.open es)

    pub parts : (done : History) × (now : History) × (open' ++ xs ≡ done ++ now) × Come set level closed front done × Come set level (closed ++ done) (drop n (onto l.open es)) now
    parts = come_split set level front (drop n (onto l.open es)) closed (open' ++ xs) (rw take-append-drop all_come)

    pub front_sorted : IsSpaced 0 (l.ring.entries ++ front)
    front_sorted = rw (← take-append-add) (spaced_take 0 (length l.ring.entries + n) (l.ring.entries ++ onto l.open es) sorted)

    -- those before the cut may be closed
    pub may_close : CanShutAll set level l.ring l.cells (merged_all front) closed parts.0
    may_close = record {
      few = omega (arith, can.few, ap length parts.2, length-append open' xs, length-append parts.0 parts.1);
      ring = can.was.has.ring;
      cells = can.was.has.cells;
      bins = merged_comes set level front closed parts.0 (search (rules, arith, behind)) parts.3;
    }

    pub front_fit : FitCounts (merged_all front)
    front_fit = come_fit set level (merged_all front) closed parts.0 (omega (arith, can.few, ap length parts.2, length-append open' xs, length-append parts.0 parts.1)) (come_merged set level front closed parts.0 parts.3)

    -- lists that were paired for all bins
    pub paired_closed : (paired : Paired) → PairsMore l.paired paired (length (merged_all front)) → PairsMore (paired_by 0 0) paired (occupied level (closed ++ parts.0))
    paired_closed paired more = omega (arith, more, can.was.has.paired, occupied_all set level (merged_all front) closed parts.0 may_close.bins)

    -- and those after it are open then
    pub take_took : (l' : Level) → l'.open ≡ Some last → ClosedAre set level l'.ring l'.cells l'.paired (closed ++ parts.0)
        → (shut : List Entry) → ComeAlike front shut → Took set level l' shut closed open' xs parts.0 parts.1
    take_took l' opened has shut alike =
        let here : IsBin set level last parts.1 = one_bin set level (drop n (onto l.open es)) last (closed ++ parts.0) parts.1 (omega (arith, is.few, length-drop n (onto l.open es))) is.here is.a is.b parts.4 in
        let before : AllByRecursion (λ x. bin level x < last.index) (closed ++ parts.0) = all_join (λ x. bin level x < last.index) closed parts.0 (before_last set level (onto l.open es) n last closed is behind) (come_all set level (λ m. m < last.index) front closed parts.0 is.before parts.3) in
        record { all = parts.2; is = record { opened = rw opened (here, before); has = has }; bins = alike set level closed parts.0 parts.3 }

-- What is put down before those that came fits, since it is not above the first of these.
pub stretch_fit : (set : CorrelationView) (level : ℕ) (l : Level) (from count levels : ℕ) (list : List Entry) (none : Entry) → 0 < count → from + count ≤ length list → (get_or list from none).index < 2 ^ 64
    → ∥ ((closed : History) × (open' : History) × (xs : History) × CanTake set level l (stretch from count levels list) closed open' xs) ∥₁ → AllByRecursion (λ e. e.index * 2 ^ levels < 2 ^ 64) (l.ring.entries ++ onto l.open [])
stretch_fit set level l from count levels list none some inside fits stands =
    let first : Entry = raised levels (get_or list from none) in
    let rest : List Entry = stretch (from + 1) (count - 1) levels list in
    let parts : l.ring.entries ++ onto l.open (stretch from count levels list) ≡ (l.ring.entries ++ onto l.open []) ++ first ∷ rest = search (rules, arith, append_assoc, onto_front, stretch_more from count levels list none) in
    ∥∥₁_elim stands (AllByRecursion-prop (λ e. e.index * 2 ^ levels < 2 ^ 64) (λ e. hlevel props) _) (λ w. all_weaker (λ e. e.index ≤ first.index) (λ e. e.index * 2 ^ levels < 2 ^ 64)
    (λ e upto. omega (arith, fits, mul-le-mul_right (2 ^ levels) upto, div-mul-le_self (get_or list from none).index (2 ^ levels))) (l.ring.entries ++ onto l.open []) (spaced_upto (l.ring.entries ++ onto l.open []) first rest (rw parts at (sorted w.3))))
