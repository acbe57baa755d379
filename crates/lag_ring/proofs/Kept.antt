-- What a ring keeps once a bin more is put into it.
use Rattle.std.proofs.Common.{rules, ◌≡◌, ℕ, ◌+◌, ◌-◌, ◌<◌, ◌≤◌, Bool, true, false, ◌&&◌, leb, cond, List, [], ◌∷◌, ◌++◌, length, refl, ◌∙◌, arith}
use Rattle.std.{proofs.lemmas.{Grind.common_steps, List.{Elements.filter-append, Sums.{sum_by-append, sum_by_push}}}, specs.List.{sum_by, count_by, filter}}
use Rattle.{std.specs.List.AllByRecursion, lag_ring.specs.{declared.ring.Entry.Entry, Ring.{Ring, ring, IsRising, weight_where, IsInReach, Weighs, Keeps}}}
use Rattle.lag_ring.proofs.{Rising.{all_push, all_weaker, rising_filter}, Lists.{all_front, all_back, all_filter, all_passed, of_some}, Sums.sum_by-agree}
use Rattle.lag_ring.proofs.{Sums.{sum_by-same, sum_by-zero, sum_by-filter}, Between.few_kept}

module _ {X : Type 0} (group : X → Bool) (at : X → ℕ) (weight : Entry → ℕ) where
  near : (test : ℕ → Bool) (i w n reach : ℕ) → 0 < reach → (test i ≡ true → n < i + reach)
      → cond (leb (n - (reach - 1)) i) (cond (test i) w 0) 0 ≡ cond (test i) w 0
  near test i w n reach some window = search (rules, arith)

  one_bin : (test : ℕ → Bool) (n : ℕ) (xs : List X) → AllByRecursion (λ x. at x ≡ n) xs
      → count_by (λ x. group x && test (at x)) xs ≡ cond (test n) (count_by group xs) 0
  one_bin test n xs here =
      sum_by-agree (λ x. at x ≡ n) (λ x. cond (group x && test (at x)) 1 0) (λ x. cond (group x && test n) 1 0) xs here (λ x is. rw is refl)
      ∙ elim (test n) as (λ b. sum_by (λ x. cond (group x && b) 1 0) xs ≡ cond b (count_by group xs) 0) [
        | true ↦ sum_by-same (λ x. cond (group x && true) 1 0) (λ x. cond (group x) 1 0) xs
            (λ x. elim (group x) as (λ b. ◌≡◌ {A = ℕ} (cond (b && true) 1 0) (cond b 1 0)) [ true ↦ refl | false ↦ refl ])
        | false ↦ sum_by-zero (λ x. at x ≡ n) (λ x. cond (group x && false) 1 0) xs here
            (λ x is. elim (group x) as (λ b. ◌≡◌ {A = ℕ} (cond (b && false) 1 0) 0) [ true ↦ refl | false ↦ refl ])
      ]

  -- one weight, once the bin e is in
  weights_more : (reach : ℕ) (es : List Entry) (old xs : List X) (e : Entry)
      → ((test : ℕ → Bool) → IsInReach at reach test old → weight_where weight test es ≡ count_by (λ x. group x && test (at x)) old)
      → AllByRecursion (λ x. at x ≡ e.index) xs → weight e ≡ count_by group xs
      → (test : ℕ → Bool) → IsInReach at reach test (old ++ xs)
      → weight_where weight test (es ++ e ∷ []) ≡ count_by (λ x. group x && test (at x)) (old ++ xs)
  weights_more reach es old xs e were here is test window = search (rules, arith, all_front, sum_by-append, sum_by_push, one_bin)

  -- one weight, once what is further back from n than the reach is gone
  weights_left : (reach : ℕ) (es : List Entry) (n : ℕ) → 0 < reach → (test : ℕ → Bool) → ((i : ℕ) → test i ≡ true → n < i + reach)
      → weight_where weight test (filter (λ f. leb (n - (reach - 1)) f.index) es) ≡ weight_where weight test es
  weights_left reach es n some test window = search (rules, arith, sum_by-filter, sum_by-same, near)

module _ {X : Type 0} (first second : X → Bool) (at : X → ℕ) where
  -- entries have the weights of all elements in reach, as those that a ring keeps
  pub record HasWeights (reach : ℕ) (es : List Entry) (xs : List X) : Type 0 where
    pub firsts : (test : ℕ → Bool) → IsInReach at reach test xs → weight_where (λ e. e.a) test es ≡ count_by (λ x. first x && test (at x)) xs
    pub seconds : (test : ℕ → Bool) → IsInReach at reach test xs → weight_where (λ e. e.b) test es ≡ count_by (λ x. second x && test (at x)) xs
    pub bounded : (n : ℕ) → AllByRecursion (λ x. at x < n) xs → AllByRecursion (λ e. e.index < n) es

  pub weights_of : (r : Ring) (xs : List X) → Keeps first second at r xs → HasWeights r.reach r.entries xs
  weights_of r xs is = record { firsts = is.firsts; seconds = is.seconds; bounded = is.bounded }

  -- a bin more
  pub weights_on : (reach : ℕ) (es : List Entry) (old xs : List X) (e : Entry) → HasWeights reach es old → Weighs first second at e xs → HasWeights reach (es ++ e ∷ []) (old ++ xs)
  weights_on reach es old xs e were weighs = record {
    firsts = weights_more first at (λ f. f.a) reach es old xs e were.firsts weighs.here weighs.a;
    seconds = weights_more second at (λ f. f.b) reach es old xs e were.seconds weighs.here weighs.b;
    bounded = λ n below. all_push (λ f. f.index < n) es e (were.bounded n (all_front (λ x. at x < n) old xs below))
        (of_some at e.index (λ m. m < n) xs weighs.some weighs.here (all_back (λ x. at x < n) old xs below));
  }

  module _ (reach : ℕ) (es : List Entry) (xs : List X) (n : ℕ) (some : 0 < reach) (reaches : (m : ℕ) → 0 < m → AllByRecursion (λ x. at x < m) xs → n < m) (were : HasWeights reach es xs) where
    -- without what is further back from n than the reach, where an element came from there on
    pub weights_late : HasWeights reach (filter (λ f. leb (n - (reach - 1)) f.index) es) xs
    weights_late =
        let near : (test : ℕ → Bool) → IsInReach at reach test xs → (i : ℕ) → test i ≡ true → n < i + reach =
        λ test window i passes. reaches (i + reach) (omega (arith, some)) (window i passes) in
        record {
          firsts = λ test window. weights_left first at (λ f. f.a) reach es n some test (near test window) ∙ were.firsts test window;
          seconds = λ test window. weights_left second at (λ f. f.b) reach es n some test (near test window) ∙ were.seconds test window;
          bounded = λ m below. all_filter (λ f. f.index < m) (λ f. leb (n - (reach - 1)) f.index) es (were.bounded m below);
        }

    -- a ring keeps what is left of rising entries that aren't after n
    pub kept_late : IsRising es → AllByRecursion (λ e. e.index ≤ n) es → Keeps first second at (ring (filter (λ f. leb (n - (reach - 1)) f.index) es) reach) xs
    kept_late rising upto =
        let stays : Entry → Bool = λ f. leb (n - (reach - 1)) f.index in
        let below : AllByRecursion (λ e. e.index < n + 1) (filter stays es) = all_filter (λ e. e.index < n + 1) stays es (all_weaker (λ e. e.index ≤ n) (λ e. e.index < n + 1) (λ e le. omega (arith, le)) es upto) in
        record {
          within = omega (arith, some, few_kept (filter stays es) (n - (reach - 1)) (n + 1) (rising_filter stays es rising) (all_passed stays es) below);
          firsts = weights_late.firsts;
          seconds = weights_late.seconds;
          bounded = weights_late.bounded;
        }
