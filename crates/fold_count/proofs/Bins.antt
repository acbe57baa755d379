-- The photons of bins.
use Rattle.std.proofs.Common.{◌≡◌, ℕ, zero, suc, ◌+◌, ◌<◌, ◌≤◌, Bool, ◌&&◌, cond, ltb, leb, eqb, List, [], ◌∷◌, length, get_or, take, drop, filter, arith}
use Rattle.std.proofs.{Common.rules, lemmas.List.{Filters.sum_by-filter_both, Sums.{sum_by_more, sum_by-take-drop, sum_by-take-le, sum_by-le-sum_by}}}
use Rattle.{std.specs.List.{sum_by, AllByRecursion}, lag_ring.{specs.{declared.ring.Entry.Entry, Ring.IsRising}, proofs.{Rising.all_weaker, Lists.all_filter}}}
use Rattle.lag_ring.proofs.{Lists.all_passed, Between.few_kept, Sums.{sum_by-zero, sum_by-filter, sum_by-same, sum_by-agree, part-le}}
use Rattle.fold_count.specs.Folded.{photons_in, photons_of, photons_where}

pub where_at_most : (test : ℕ → Bool) (bins : List Entry) → photons_where test bins ≤ photons_in bins
where_at_most test bins = sum_by-le-sum_by (λ e. cond (test e.index) e.a 0) (λ e. e.a) bins (λ e. part-le (test e.index) e.a)

pub not_before : (tick before : ℕ) (b : Bool) (n : ℕ) → before ≤ tick → cond (ltb tick before && b) n 0 ≡ 0
not_before tick before b n late = search (rules, arith)

-- where each bin's set is known by its tick
pub of_known : (set : ℕ → ℕ) (before s : ℕ) (bins : List Entry) → AllByRecursion (λ e. e.b ≡ set e.index) bins
    → photons_of before s bins ≡ photons_where (λ t. ltb t before && eqb (set t) s) bins
of_known set before s bins known = search (rules, arith, sum_by-agree)

-- the photons so far, and those of the next bin, are among all
pub room_for_next : (test : ℕ → Bool) (bins : List Entry) (i : ℕ) (d : Entry) → i < length bins
    → photons_where test (take i bins) + (get_or bins i d).a ≤ photons_in bins
room_for_next test bins i d inside =
    omega (arith, where_at_most test (take i bins), sum_by_more (λ e. e.a) bins i d inside, sum_by-take-le (λ e. e.a) bins (i + 1))

-- from a bin on that isn't before a tick, none is
pub late_from : (bins : List Entry) (i before : ℕ) (d : Entry) → IsRising bins → i < length bins
    → before ≤ (get_or bins i d).index → AllByRecursion (λ e. before ≤ e.index) (drop i bins)
late_from [] i before d rising inside late = absurd (omega (arith, inside))
late_from (e ∷ bins) zero before d rising inside late = search (rules, arith, all_weaker)
late_from (e ∷ bins) (suc i) before d rising inside late = late_from bins i before d rising.1 (omega (arith, inside)) late

-- the bins before one that isn't before a tick have all that is before it
pub all_before : (f : Entry → ℕ) (before : ℕ) (bins : List Entry) (i : ℕ) (d : Entry) → ((e : Entry) → before ≤ e.index → f e ≡ 0) → IsRising bins
    → i < length bins → before ≤ (get_or bins i d).index → sum_by f (take i bins) ≡ sum_by f bins
all_before f before bins i d none rising inside late = search (rules, arith, sum_by-zero, late_from, sum_by-take-drop)

-- those that are kept
both : (a b : Bool) (n : ℕ) → cond a (cond b n 0) 0 ≡ cond (a && b) n 0
both a b n = search (rules, arith)

pub where_kept : (test : ℕ → Bool) (before : ℕ) (bins : List Entry)
    → photons_where test (filter (λ e. leb before e.index) bins) ≡ photons_where (λ t. leb before t && test t) bins
where_kept test before bins = search (rules, arith, sum_by-filter, sum_by-same, both)

-- what is kept and what is before have all photons
pub photons_kept : (before : ℕ) (bins : List Entry)
    → photons_in (filter (λ e. leb before e.index) bins) + photons_where (λ t. ltb t before) bins ≡ photons_in bins
photons_kept before bins = omega (arith, sum_by-filter_both (λ (e : Entry). leb before e.index) (λ e. ltb e.index before) (λ e. search (rules, arith)) (λ e. e.a) bins, sum_by-filter (λ (e : Entry). ltb e.index before) (λ e. e.a) bins)

-- there is room for one more
pub room_left : (before index reach : ℕ) (bins : List Entry) → IsRising (filter (λ e. leb before e.index) bins) → AllByRecursion (λ e. e.index < index) bins
    → before ≤ index → index < before + reach → length (filter (λ e. leb before e.index) bins) < reach
room_left before index reach bins rising above le near =
    omega (arith, le, near, few_kept (filter (λ e. leb before e.index) bins) before index rising (all_passed (λ e. leb before e.index) bins) (all_filter (λ e. e.index < index) (λ e. leb before e.index) bins above))
