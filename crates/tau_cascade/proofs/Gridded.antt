-- What a ring keeps of the bins of a grid.
use Rattle.std.proofs.Common.{◌≡◌, ◌∙◌, ℕ, zero, suc, ◌+◌, ◌-◌, ◌*◌, ◌<◌, ◌≤◌, Bool, true, false, ◌&&◌, cond, eqb, leb, ltb, min, List, [], ◌∷◌, ◌++◌, length}
use Rattle.std.proofs.{Common.{map, take, refl, sym, arith, rules}, lemmas.{Bool.Decides.nat_tests, List.{get_or-take, Elements.filter-append}}}
use Rattle.std.{proofs.lemmas.{List.Sums.{sum_by-cons, sum_by-append, sum_by-le-sum_by}, Grind.common_steps}, specs.List.{sum_by, filter, AllByRecursion}}
use Rattle.{std.specs.List.range_with_len, tally_base.specs.{Settings.CorrelationView, Tally.History}, lag_ring.specs.declared.ring.Entry.Entry}
use Rattle.lag_ring.specs.{declared.window.Side.{Side, TheVariants.{First, Second}}, Bytes.{weight_of, weight_at}, Ring.{Ring, ring, IsRising, weight_where}}
use Rattle.lag_ring.proofs.{Lists.{all_front, all_back, all_join, all_passed}, Rising.{all_weaker, rising_filter}, Sums.{sum_by-agree, sum_by-plus}}
use Rattle.{lag_ring.proofs.{Sums.{sum_by-zero, sum_by-filter, sum_by-same}, Between.few_kept}, tau_cascade.proofs.Dots.{below_range, range_few, range_agree}}
use Rattle.tau_cascade.{proofs.{Dots.{one_place, by_bins}, Follows.weigh}, specs.{Levels.RingIs, Correlation.bin, declared.grid.Grid.Grid, Bins.merged_all}}
use Rattle.tau_cascade.specs.Grid.{Stands, bin_at, bins_from, kept_and, photons, filled}

-- bins have at most so many places that have photons as they are
filled_bins : (base n : ℕ) (us : List Entry) → sum_by (λ p. min 1 (weight_at First 0 base p us + weight_at Second 0 base p us)) (range_with_len 0 n) ≤ length us
filled_bins base n [] = omega (arith, range_few (λ p. 0) 0 n (λ q. omega arith))
filled_bins base n (e ∷ us) =
    let old : ℕ → ℕ = λ p. min 1 (weight_at First 0 base p us + weight_at Second 0 base p us) in
    let here : ℕ → ℕ = λ p. 1 * cond (eqb (e.index + 0) (base + p)) 1 0 in
    let more = sum_by-le-sum_by (λ p. min 1 (weight_at First 0 base p (e ∷ us) + weight_at Second 0 base p (e ∷ us))) (λ p. old p + here p) (range_with_len 0 n)
    (λ p. grind (arith, nat_tests, sum_by-cons (λ (f : Entry). cond (eqb (f.index + 0) (base + p)) f.a 0) e us, sum_by-cons (λ (f : Entry). cond (eqb (f.index + 0) (base + p)) f.b 0) e us)) in
    grind (arith, more, sum_by-plus old here (range_with_len 0 n), one_place (λ q. 1) base e.index 1 0 n, filled_bins base n us)

merged_weight_all : (side : Side) (test : ℕ → Bool) (es : List Entry) → weight_where (weight_of side) test (merged_all es) ≡ weight_where (weight_of side) test es
merged_weight_all side test [] = refl
merged_weight_all side test (e ∷ es) =
    let h : Entry → ℕ = λ f. cond (test f.index) (weight_of side f) 0 in
    weigh h (λ f g same. rw (← same) (search (rules, arith))) e es ∙ sym (sum_by-cons h e es)

-- a grid has no more places with photons than it stands for bins
pub filled_few : (g : Grid) (es : List Entry) (n : ℕ) → n ≤ 4096 → Stands g es → sum_by (filled (take n g.firsts) (take n g.seconds)) (range_with_len 0 n) ≤ length (merged_all es)
filled_few g es n within stands =
    let weight = λ (side : Side) (p : ℕ). merged_weight_all side (λ i. eqb (i + 0) (g.base + p)) es in
    let same = range_agree (filled (take n g.firsts) (take n g.seconds)) (λ p. min 1 (weight_at First 0 g.base p (merged_all es) + weight_at Second 0 g.base p (merged_all es))) n
    (λ p inside. rw (get_or-take n g.firsts p 0 inside, get_or-take n g.seconds p 0 inside, stands.firsts p (omega arith), stands.seconds p (omega arith), weight First p, weight Second p) refl) in
    rw same (filled_bins g.base n (merged_all es))

-- bins that have photons, and nothing where a test passes, are all where it doesn't
none_pass : (test : ℕ → Bool) (us : List Entry) → AllByRecursion (λ e. ltb 0 (photons e) ≡ true) us → ((side : Side) → weight_where (weight_of side) test us ≡ 0)
    → AllByRecursion (λ e. test e.index ≡ false) us
none_pass test [] some none = tt
none_pass test (u ∷ us) some none =
    let cons = λ (side : Side). sum_by-cons (λ (e : Entry). cond (test e.index) (weight_of side e) 0) u us in
    let second = cons Second in
    (grind (arith, nat_tests, common_steps, some.0, none First, none Second), none_pass test us some.1 (λ side. omega (arith, cons side, none side)))

rising_range : (g : Grid) (a b n : ℕ) → a < b → AllByRecursion (λ f. g.base + a < f.index) (map (bin_at g) (range_with_len b n))
rising_range g a b zero under = tt
rising_range g a b (suc n) under = search (rules, arith, rising_range g a (b + 1) n)

rising_places : (g : Grid) (a n : ℕ) → IsRising (map (bin_at g) (range_with_len a n))
rising_places g a zero = tt
rising_places g a (suc n) = search (rules, arith, rising_range g a (a + 1) n, rising_places g (a + 1) n)

pub sum_by-map : {X Y : Type 0} (h : Y → ℕ) (f : X → Y) (xs : List X) → sum_by h (map f xs) ≡ sum_by (λ x. h (f x)) xs
sum_by-map h f [] = refl
sum_by-map h f (x ∷ xs) = rw (sum_by-cons h (f x) (map f xs), sum_by-cons (λ y. h (f y)) x xs, sum_by-map h f xs) refl

module _ (g : Grid) (es : List Entry) (before start : ℕ) (is : start ≡ before - g.base) (stands : Stands g es) where
  abbrev from : Entry → Bool
  from e = leb before e.index

  abbrev kept : List Entry
  kept = filter from (merged_all es)

  abbrev count : ℕ
  count = g.len - start

  all_weight : (side : Side) (test : ℕ → Bool) → weight_where (weight_of side) test kept ≡ weight_where (weight_of side) (λ i. leb before i && test i) es
  all_weight side test =
      rw (← merged_weight_all side (λ i. leb before i && test i) es, sum_by-filter) (sum_by-same _ _ (merged_all es) (λ e. search (rules, arith)))

  -- the bins of the grid have the weights of those that are kept
  unfolded : (side : Side) (test : ℕ → Bool) → weight_where (weight_of side) test (bins_from g start) ≡ weight_where (weight_of side) test kept
  unfolded side test =
      let passed : ℕ → ℕ = λ i. cond (test i) 1 0 in
      rw (all_weight side test, sum_by-filter)
      (sum_by-map _ (bin_at g) (range_with_len start count)
      ∙ sum_by-agree (λ p. p < 4096) _ (λ p. passed (g.base + p) * weight_at side 0 g.base p es) (range_with_len start count)
      (below_range start count 4096 (omega (arith, stands.few)))
      (λ p inside. let one : weight_of side (bin_at g p) ≡ weight_at side 0 g.base p es = search (rules, arith) in rw (← one) (search (rules, arith)))
      ∙ by_bins passed side g.base start count es
      ∙ sum_by-agree (λ e. (g.base ≤ e.index) × (e.index < g.base + g.len)) _ _ es stands.within
      (λ e near. let same : (leb (g.base + start) e.index && ltb e.index (g.base + start + count)) ≡ leb before e.index = grind (arith, nat_tests, is, near) in
      rw same (search (rules, arith))))

  -- so a test that none of those passes none of them passes
  none_of : (test : ℕ → Bool) → AllByRecursion (λ e. test e.index ≡ false) kept → AllByRecursion (λ e. test e.index ≡ false) (bins_from g start)
  none_of test none =
      none_pass test (bins_from g start) (all_passed (λ e. ltb 0 (photons e)) (map (bin_at g) (range_with_len start count)))
      (λ side. unfolded side test ∙ sum_by-zero (λ e. test e.index ≡ false) (λ e. cond (test e.index) (weight_of side e) 0) kept none (λ e no. rw no refl))

  -- what a test tells of a bin holds of those after others as it holds of these
  as_kept : (P : Entry → Type 0) (test : ℕ → Bool) → ((e : Entry) → P e → test e.index ≡ false) → ((e : Entry) → test e.index ≡ false → P e)
      → (rs : List Entry) → AllByRecursion P (rs ++ kept) → AllByRecursion P (rs ++ bins_from g start)
  as_kept P test to back rs all = all_join P rs (bins_from g start) (all_front P rs kept all) (all_weaker (λ e. test e.index ≡ false) P back (bins_from g start)
      (none_of test (all_weaker P (λ e. test e.index ≡ false) to kept (all_back P rs kept all))))

  rising_behind : (rs : List Entry) → IsRising (rs ++ kept) → IsRising (rs ++ bins_from g start)
  rising_behind [] rising = rising_filter (λ e. ltb 0 (photons e)) (map (bin_at g) (range_with_len start count)) (rising_places g start count)
  rising_behind (r ∷ rs) rising = (
    as_kept (λ f. r.index < f.index) (λ i. leb i r.index) (λ e is. grind (arith, nat_tests, is))
        (λ e no. grind (arith, nat_tests, no)) rs rising.0,
    rising_behind rs rising.1,
  )

  -- A ring may keep them in place of those.
  module _ (set : CorrelationView) (level : ℕ) (r : Ring) (photons' : History)
      (rung : RingIs set level (ring (filter from (r.entries ++ merged_all es)) r.reach) photons')
      (low : AllByRecursion (λ x. bin level x < before + r.reach) photons') where
    abbrev mine : List Entry
    mine = kept_and before r.entries g start

    was : RingIs set level (ring (filter from r.entries ++ kept) r.reach) photons'
    was = rw filter-append at rung

    weights : (side : Side) (test : ℕ → Bool) → weight_where (weight_of side) test mine ≡ weight_where (weight_of side) test (filter from r.entries ++ kept)
    weights side test =
        let h : Entry → ℕ = λ e. cond (test e.index) (weight_of side e) 0 in
        omega (arith, sum_by-append h (filter from r.entries) (bins_from g start), sum_by-append h (filter from r.entries) kept, unfolded side test)

    bounded : (m : ℕ) → AllByRecursion (λ x. bin level x < m) photons' → AllByRecursion (λ e. e.index < m) mine
    bounded m all = as_kept (λ e. e.index < m) (leb m) (λ e is. grind (arith, nat_tests, is)) (λ e no. grind (arith, nat_tests, no))
        (filter from r.entries) (was.keeps.bounded m all)

    pub keeps_dense : IsRising mine × (length mine ≤ r.reach) × RingIs set level (ring mine r.reach) photons'
    keeps_dense =
        let rising = rising_behind (filter from r.entries) was.rising in
        let from_all : AllByRecursion (λ e. leb before e.index ≡ true) mine =
        as_kept (λ e. leb before e.index ≡ true) (λ i. ltb i before) (λ e yes. grind (arith, nat_tests, yes)) (λ e no. grind (arith, nat_tests, no))
        (filter from r.entries) (rw filter-append at (all_passed from (r.entries ++ merged_all es))) in
        let few : length mine ≤ r.reach = omega (arith, few_kept mine before (before + r.reach) rising from_all (bounded (before + r.reach) low)) in (
          rising,
          few,
          record {
            reach = was.reach;
            rising = rising;
            keeps = record {
              within = few;
              firsts = λ test window. weights First test ∙ was.keeps.firsts test window;
              seconds = λ test window. weights Second test ∙ was.keeps.seconds test window;
              bounded = bounded;
            };
          },
        )
