-- Pairs summed lag by lag.
use Rattle.{tally_base.{specs.Settings.CoincidenceView, proofs.Sums.sum_none}, lag_ring.specs.declared.{ring.Entry.Entry, window.Side.Side}}
use Rattle.lag_ring.specs.{declared.window.Side.TheVariants.{First, Second}, Bytes.{weight_of, weight_before, Have, behind}, Ring.IsRising}
use Rattle.lag_ring.proofs.{Lists.{all_both, all_filter, all_join, each_at}, Rising.{all_weaker, all_push, filter_passed, rising_filter}, Sums.sum_by-same}
use Rattle.{lag_ring.proofs.Sums.{sum_by-agree, sum_by-plus, sum_by-times, sum_by-zero, window-before}, coincidence.specs.Pairing.{shifted_by, other_side}}
use Rattle.coincidence.specs.{Pairing.{lag_pair, pairs_at}, Closing.{lag_pairs, each_lag_pair, lag_sum, both_lag_sums, lags_of, placed, strip_pairs}}
use Rattle.{coincidence.{specs.Closing.{window_pairs, window_sum}, proofs.Shut.filter_none}, std.proofs.Common.{◌≡◌, ◌≢◌, ◌∙◌, ℕ, zero, suc, ◌+◌, ◌-◌, ◌*◌}}
use Rattle.std.proofs.Common.{◌/◌, ◌^◌, ◌<◌, ◌≤◌, Bool, true, false, ◌&&◌, leb, ltb, eqb, cond, List, [], ◌∷◌, ◌++◌, refl, sym, ap, arith, take, drop, nat_le}
use Rattle.std.proofs.{Common.{nat_lt, append_assoc, rules, length, get_or, replicate}, Math.Nat.mul-le-mul_right, lemmas.Grind.common_steps}
use Rattle.std.{proofs.lemmas.{Bool.Decides.nat_tests, List.{get_or-replicate, Elements.filter-append, Sums.{sum_by-cons, sum_by-append}}}, specs.List.sum_by}
use Rattle.std.specs.List.{filter, range_with_len, AllByRecursion, Sorted.IsNonDecreasingBy}

-- sums over two lists in either order
swapped : {X Y : Type 0} (f : X → Y → ℕ) (xs : List X) (ys : List Y) → sum_by (λ x. sum_by (f x) ys) xs ≡ sum_by (λ y. sum_by (λ x. f x y) xs) ys
swapped f [] ys = sym (sum_none ys)
swapped f (x ∷ xs) ys = rw (sum_by-cons (λ z. sum_by (f z) ys) x xs, swapped f xs ys, ← sum_by-plus (f x) (λ y. sum_by (λ z. f z y) xs) ys)
    (sum_by-same _ _ ys (λ y. sym (sum_by-cons (λ z. f z y) x xs)))

-- a sum over a range of what is 0 but at one place
pub at_one : (f : ℕ → ℕ) (k a n : ℕ) → ((i : ℕ) → a ≤ i → i < a + n → i ≢ k → f i ≡ 0) → sum_by f (range_with_len a n) ≡ cond (leb a k && ltb k (a + n)) (f k) 0
at_one f k a zero none = grind (arith, nat_tests)
at_one f k a (suc n) none = let rest = at_one f k (a + 1) n (λ i from below. none i (omega (arith, from)) (omega (arith, below))) in search (rules, arith, sum_by-cons)

-- the pairs with one earlier entry at one lag
abbrev at_lag : Side → CoincidenceView → ℕ → ℕ → ℕ → Entry → ℕ → ℕ
at_lag d set c index later e lag =
    cond (eqb (shifted_by d set.reach lag / set.width) c) (cond (eqb (e.index + lag) index) (weight_of d e) 0 * later) 0

-- the pairs with one earlier entry, lag by lag
module _ (d : Side) (set : CoincidenceView) (c base count : ℕ) (l : Entry) where
  abbrev later : ℕ
  later = weight_of (other_side d) l

  elsewhere : (e : Entry) (lag : ℕ) → lag ≢ l.index - e.index → at_lag d set c l.index later e lag ≡ 0
  elsewhere e lag other = search (rules, arith)

  by_lags : (e : Entry) → sum_by (at_lag d set c l.index later e) (range_with_len (base + 1) count) ≡ lag_pair d set c (base + 1) count l e
  by_lags e =
      let one = at_one (at_lag d set c l.index later e) (l.index - e.index) (base + 1) count (λ lag from below. elsewhere e lag) in
      grind (arith, common_steps, nat_tests)

cell-sum : {X : Type 0} (b : Bool) (f : X → ℕ) (later : ℕ) (xs : List X) → cond b (sum_by f xs * later) 0 ≡ sum_by (λ x. cond b (f x * later) 0) xs
cell-sum true f later xs = sym (sum_by-times f later xs)
cell-sum false f later xs = sym (sum_none xs)

cell-sum' : {X : Type 0} (b : Bool) (f : X → ℕ) (x : X) (xs : List X) → cond b (sum_by f (x ∷ xs)) 0 ≡ cond b (f x) 0 + cond b (sum_by f xs) 0
cell-sum' b f x xs = search (rules, arith, sum_by-cons)

-- the pairs of all entries, lag by lag
all_lags : (d : Side) (set : CoincidenceView) (c base count : ℕ) (l : Entry) (es : List Entry)
    → sum_by (λ lag. cond (eqb (shifted_by d set.reach lag / set.width) c) (weight_before d lag l.index es * weight_of (other_side d) l) 0)
    (range_with_len (base + 1) count) ≡ sum_by (lag_pair d set c (base + 1) count l) es
all_lags d set c base count l es =
    let later : ℕ = weight_of (other_side d) l in
    sum_by-same (λ lag. cond (eqb (shifted_by d set.reach lag / set.width) c) (weight_before d lag l.index es * later) 0)
    (λ lag. sum_by (λ e. at_lag d set c l.index later e lag) es) (range_with_len (base + 1) count)
    (λ lag. cell-sum (eqb (shifted_by d set.reach lag / set.width) c)
    (λ (e : Entry). cond (eqb (e.index + lag) l.index) (weight_of d e) 0) later es)
    ∙ swapped (λ lag (e : Entry). at_lag d set c l.index later e lag) (range_with_len (base + 1) count) es
    ∙ sum_by-same (λ e. sum_by (at_lag d set c l.index later e) (range_with_len (base + 1) count)) (lag_pair d set c (base + 1) count l) es (by_lags d set c base count l)

pub range-within : (a n : ℕ) → AllByRecursion (λ i. (a ≤ i) × (i < a + n)) (range_with_len a n)
range-within a zero = tt
range-within a (suc n) = search (rules, arith, all_weaker, range-within (a + 1) n)

-- the pairs of each of some entries with others, at so many lags after others
pub lags_of_each : (d : Side) (set : CoincidenceView) (c base count : ℕ) (es ls : List Entry)
    → sum_by (lag_pairs d set c es ls) (range_with_len (base + 1) count) ≡ sum_by (λ l. sum_by (lag_pair d set c (base + 1) count l) es) ls
lags_of_each d set c base count es [] = grind (arith, common_steps, sum_none (range_with_len (base + 1) count))
lags_of_each d set c base count es (l ∷ ls) =
    let cell : ℕ → Bool = λ lag. eqb (shifted_by d set.reach lag / set.width) c in
    let mine : ℕ → ℕ = λ lag. cond (cell lag) (weight_before d lag l.index es * weight_of (other_side d) l) 0 in
    sum_by-same _ (λ lag. mine lag + lag_pairs d set c es ls lag) (range_with_len (base + 1) count) (λ lag. cell-sum' (cell lag) (λ (e : Entry). weight_before d lag e.index es * weight_of (other_side d) e) l ls)
    ∙ sum_by-plus mine (lag_pairs d set c es ls) (range_with_len (base + 1) count)
    ∙ rw (all_lags d set c base count l es, lags_of_each d set c base count es ls, sum_by-cons (λ k. sum_by (lag_pair d set c (base + 1) count k) es) l ls) refl

-- the pairs of each of some entries with those before it, in one direction
abbrev pub in_turn : Side → CoincidenceView → ℕ → List Entry → List Entry → ℕ
in_turn d set c es [] = 0
in_turn d set c es (l ∷ ls) = pairs_at d set c l es + in_turn d set c (es ++ l ∷ []) ls

-- entries that aren't before make no pair
only_before : (d : Side) (set : CoincidenceView) (c : ℕ) (l : Entry) (es fs : List Entry) → AllByRecursion (λ e. e.index < l.index) es → AllByRecursion (λ e. l.index ≤ e.index) fs
    → sum_by (lag_pair d set c 1 set.reach l) (es ++ fs) ≡ pairs_at d set c l es
only_before d set c l es fs before after =
    let same = sum_by-agree (λ e. e.index < l.index) (lag_pair d set c 1 set.reach l) (lag_pair d set c 0 (set.reach + 1) l) es before (λ e lt. grind (arith, nat_tests)) in
    let none = sum_by-zero (λ e. l.index ≤ e.index) (lag_pair d set c 1 set.reach l) fs after (λ e from. grind (arith, nat_tests)) in
    omega (arith, sum_by-append (lag_pair d set c 1 set.reach l) es fs, same, none)

each_in_turn : (d : Side) (set : CoincidenceView) (c : ℕ) (es ls : List Entry) → IsRising ls → AllByRecursion (λ l. AllByRecursion (λ e. e.index < l.index) es) ls
    → sum_by (λ l. sum_by (lag_pair d set c 1 set.reach l) (es ++ ls)) ls ≡ in_turn d set c es ls
each_in_turn d set c es [] rising below = refl
each_in_turn d set c es (l ∷ ls) rising below =
    rw (sum_by-cons (λ k. sum_by (lag_pair d set c 1 set.reach k) (es ++ l ∷ ls)) l ls, only_before d set c l es (l ∷ ls) below.0 (search (rules, arith, all_weaker)), ← append_assoc es (l ∷ []) ls)
    (ap (λ n. pairs_at d set c l es + n) (each_in_turn d set c (es ++ l ∷ []) ls rising.1 (search (rules, arith, all_both, all_push))))

pub lags_in_turn : (d : Side) (set : CoincidenceView) (c : ℕ) (es ls : List Entry) → IsRising ls → AllByRecursion (λ l. AllByRecursion (λ e. e.index < l.index) es) ls → sum_by (lag_pairs d set c (es ++ ls) ls) (range_with_len 1 set.reach) ≡ in_turn d set c es ls
lags_in_turn d set c es ls rising below = lags_of_each d set c 0 set.reach (es ++ ls) ls ∙ each_in_turn d set c es ls rising below

-- Pairs in windows.

-- a range and the one after it
pub range-append : (a m n : ℕ) → range_with_len a (m + n) ≡ range_with_len a m ++ range_with_len (a + m) n
range-append a zero n = search (rules, arith)
range-append a (suc m) n =
    let e : a + suc m ≡ a + 1 + m = omega arith in
    let k : suc m + n ≡ suc (m + n) = omega arith in
    rw (k, e) (ap (λ xs. a ∷ xs) (range-append (a + 1) m n))

pub range-parts : (f : ℕ → ℕ) (a m n : ℕ) → sum_by f (range_with_len a (m + n)) ≡ sum_by f (range_with_len a m) + sum_by f (range_with_len (a + m) n)
range-parts f a m n = ap (sum_by f) (range-append a m n) ∙ sum_by-append f (range_with_len a m) (range_with_len (a + m) n)

pub range-le : (f : ℕ → ℕ) (a i n : ℕ) → i ≤ n → sum_by f (range_with_len a i) ≤ sum_by f (range_with_len a n)
range-le f a i n upto = let all : i + (n - i) ≡ n = omega arith in omega (arith, range-parts f a i (n - i), ap (λ k. sum_by f (range_with_len a k)) all)

-- sums of what is the same, and the other way round
pub range-both : (f g : ℕ → ℕ) (a b n : ℕ) → ((i : ℕ) → i < n → f (a + i) ≡ g (b + i)) → sum_by f (range_with_len a n) ≡ sum_by g (range_with_len b n)
range-both f g a b zero same = refl
range-both f g a b (suc n) same =
    let rest = range-both f g (a + 1) (b + 1) n (λ i below. let x : a + 1 + i ≡ a + (i + 1) = omega arith in let y : b + 1 + i ≡ b + (i + 1) = omega arith in rw (x, y) (same (i + 1) (omega (arith, below)))) in
    search (rules, arith, sum_by-cons, rest, same 0)

pub range-turned : (f g : ℕ → ℕ) (a b n : ℕ) → ((i : ℕ) → i < n → f (a + i) ≡ g (b + (n - 1 - i))) → sum_by f (range_with_len a n) ≡ sum_by g (range_with_len b n)
range-turned f g a b zero same = refl
range-turned f g a b (suc n) same =
    let rest = range-turned f g (a + 1) b n (λ i below. let x : a + 1 + i ≡ a + (i + 1) = omega arith in let y : n - 1 - i ≡ suc n - 1 - (i + 1) = omega arith in rw (x, y) (same (i + 1) (omega (arith, below)))) in
    search (rules, arith, sum_by-cons, rest, same 0, range-parts g b n 1)

-- a strip more
pub range-strip : (f : ℕ → ℕ) (base least count : ℕ)
    → sum_by f (range_with_len (base + 1) (least + count)) ≡ sum_by f (range_with_len (base + 1) least) + sum_by f (range_with_len (base + least + 1) count)
range-strip f base least count = search (rules, arith, range-parts)

-- the sums of a strip are those of the window
pub strip-window : (d : Side) (set : CoincidenceView) (c base least count : ℕ) (sums window spots : List ℕ) → count ≤ 256 → least + 256 ≤ 4096
    → ((q : ℕ) → q < 256 → get_or sums q 0 ≡ sum_by (behind window (4096 - least - 256 + q)) spots)
    → sum_by (strip_pairs d set c (base + least) sums) (range_with_len (base + least + 1) count) ≡ sum_by
    (window_pairs d set c base window spots) (range_with_len (base + least + 1) count)
strip-window d set c base least count sums window spots few below is =
    sum_by-agree (λ lag. (base + least + 1 ≤ lag) × (lag < base + least + 1 + count)) (strip_pairs d set c (base + least) sums)
    (window_pairs d set c base window spots) (range_with_len (base + least + 1) count) (range-within (base + least + 1) count)
    (λ lag within.
    let q : ℕ = base + least + 256 - lag in
    let place : 4096 - least - 256 + q ≡ base + 4096 - lag = omega arith in
    let same : get_or sums q 0 ≡ sum_by (behind window (base + 4096 - lag)) spots = (rw place at (is q (omega arith))) in
    ap (λ n. cond (eqb (shifted_by d set.reach lag / set.width) c) n 0) same)

-- the pairs of a window are those with the entries in it
pub window-lags : (d : Side) (set : CoincidenceView) (c base low : ℕ) (window spots : List ℕ) (es later : List Entry)
    → length window ≡ 8192 → Have d (base + 4096) low (replicate 8192 0) window es
    → AllByRecursion (λ e. (low ≤ e.index) × (e.index - low < 4096)) later
    → ((f : ℕ → ℕ) → sum_by f spots ≡ sum_by (λ e. f (e.index - low) * weight_of (other_side d) e) later)
    → window_sum d set c base window spots ≡ lag_sum d set c base (lags_of set base) es later
window-lags d set c base low window spots es later full have near photons =
    sum_by-agree (λ lag. (base + 1 ≤ lag) × (lag < base + 1 + lags_of set base)) (window_pairs d set c base window spots)
    (lag_pairs d set c es later) (range_with_len (base + 1) (lags_of set base)) (range-within (base + 1) (lags_of set base))
    (λ lag within.
    let same : sum_by (λ (e : Entry). get_or window (e.index - low + (base + 4096 - lag)) 0 * weight_of (other_side d) e) later ≡ sum_by
    (λ e. weight_before d lag e.index es * weight_of (other_side d) e) later =
    sum_by-agree (λ e. (low ≤ e.index) × (e.index - low < 4096)) (λ e. get_or window (e.index - low + (base + 4096 - lag)) 0 * weight_of (other_side d) e) (λ e. weight_before d lag e.index es * weight_of (other_side d) e) later near
    (λ e at. ap (λ n. n * weight_of (other_side d) e) (window-before d window low (base + 4096) es (λ p inside. omega (arith, get_or-replicate {A = ℕ} 8192 p 0 0 (omega (arith, inside, full)), have p (omega (arith, inside, full)))) lag e.index (omega arith) at.0 (omega arith))) in
    ap (λ n. cond (eqb (shifted_by d set.reach lag / set.width) c) n 0) (photons (behind window (base + 4096 - lag)) ∙ same))

-- a sum over three lists
pub three_sums : (f : Entry → ℕ) (front back own : List Entry) → sum_by f (front ++ back ++ own) ≡ sum_by f front + sum_by f back + sum_by f own
three_sums f front back own = search (rules, arith, sum_by-append)

-- the pairs with each of three lists, one by one
pub lags_parts : (d : Side) (set : CoincidenceView) (c base count : ℕ) (front back own later : List Entry)
    → lag_sum d set c base count (front ++ back ++ own) later ≡ each_lag_pair d set c (base + 1) count front later + each_lag_pair d set c (base + 1) count back later + each_lag_pair d set c (base + 1) count own later
lags_parts d set c base count front back own later =
    lags_of_each d set c base count (front ++ back ++ own) later
    ∙ swapped (lag_pair d set c (base + 1) count) later (front ++ back ++ own)
    ∙ three_sums (λ e. sum_by (λ l. lag_pair d set c (base + 1) count l e) later) front back own

-- entries after others rise with them
pub rising_join : (es later : List Entry) → IsRising es → IsRising later
    → AllByRecursion (λ l. AllByRecursion (λ e. e.index < l.index) es) later → IsRising (es ++ later)
rising_join [] later rising rising' above = rising'
rising_join (e ∷ es) later rising rising' above = search (rules, arith, all_join, all_weaker, rising_join es later rising.1 rising')

-- Entries that later ones reach at the lags of a window.

-- what counts no others counts these alone
placed-sum : (f : Entry → ℕ) (base low high : ℕ) (es : List Entry) → ((e : Entry) → e.index < low - (base + 4096) → f e ≡ 0)
    → ((e : Entry) → high - base ≤ e.index → f e ≡ 0) → sum_by f (placed base low high es) ≡ sum_by f es
placed-sum f base low high [] before behind' = search rules
placed-sum f base low high (e ∷ es) before behind' = search (rules, arith, sum_by-cons, placed-sum f base low high es before behind')

pub placed_append : (base low high : ℕ) (es fs : List Entry) → placed base low high (es ++ fs) ≡ placed base low high es ++ placed base low high fs
placed_append base low high es fs = search (rules, filter-append)

pub placed-all : (P : Entry → Type 0) (base low high : ℕ) (es : List Entry) → AllByRecursion P es → AllByRecursion P (placed base low high es)
placed-all P base low high es all = all_filter P _ _ (all_filter P _ es all)

-- the steps of three lists
pub few-steps : (n front back last most : ℕ) → front + back + last ≤ most → front * n + back * n + last * n ≤ n * most
few-steps n front back last most few = omega (arith, mul-le-mul_right n few)

pub placed-rising : (base low high : ℕ) (es : List Entry) → IsRising es → IsRising (placed base low high es)
placed-rising base low high es rising = rising_filter _ _ (rising_filter _ es rising)

pub placed_parts : (base low high : ℕ) (front back own : List Entry) → placed base low high front ++ placed base low high back ++ placed base low high own ≡ placed base low high (front ++ back ++ own)
placed_parts base low high front back own = search (rules, arith, placed_append)

-- entries that are early have places at the greatest lag
pub early-enough : (base : ℕ) (es : List Entry) → base ≤ 2 ^ 20 → AllByRecursion (λ e. e.index < 2 ^ 63) es → AllByRecursion (λ e. e.index + (base + 4096) < 2 ^ 64) es
early-enough base es few early = search (rules, arith, all_weaker)

placed-pairs : (d : Side) (set : CoincidenceView) (c base low high : ℕ) (l : Entry) (es : List Entry) → (low ≤ l.index) × (l.index < high)
    → sum_by (lag_pair d set c (base + 1) (lags_of set base) l) (placed base low high es) ≡ sum_by (lag_pair d set c (base + 1) (lags_of set base) l) es
placed-pairs d set c base low high l es at = search (rules, arith, placed-sum)

-- the pairs at the lags are those with these
lags-placed : (d : Side) (set : CoincidenceView) (c base low high : ℕ) (later : List Entry) → AllByRecursion (λ e. (low ≤ e.index) × (e.index < high)) later
    → (es : List Entry) → lag_sum d set c base (lags_of set base) (placed base low high es) later ≡ lag_sum d set c base (lags_of set base) es later
lags-placed d set c base low high later near es = search (rules, arith, lags_of_each, sum_by-agree, placed-pairs)

pub near-low : (low high : ℕ) (later : List Entry) → high ≤ low + 4096 → AllByRecursion (λ e. (low ≤ e.index) × (e.index < high)) later → AllByRecursion (λ e. (low ≤ e.index) × (e.index - low < 4096)) later
near-low low high later short near = search (rules, arith, all_weaker)

-- no photons of the earlier entry, no pairs
pub no_lag_pairs : (d : Side) (set : CoincidenceView) (c from count : ℕ) (e : Entry) → weight_of d e ≡ 0 → (ls : List Entry) → sum_by (λ l. lag_pair d set c from count l e) ls ≡ 0
no_lag_pairs d set c from count e none [] = refl
no_lag_pairs d set c from count e none (l ∷ ls) = search (rules, arith, sum_by-cons, no_lag_pairs d set c from count e none ls)

-- lags after others
lags-on : (d : Side) (set : CoincidenceView) (c base count : ℕ) (es later : List Entry) → lag_sum d set c 0 (base + count) es later ≡ lag_sum d set c 0 base es later + lag_sum d set c base count es later
lags-on d set c base count es later = let start : 0 + base ≡ base = omega arith in rw start at (range-strip (lag_pairs d set c es later) 0 base count)

-- those of one window more, with the entries that later ones may reach at them
pub window-on : (set : CoincidenceView) (c base low high : ℕ) (later : List Entry) → AllByRecursion (λ e. (low ≤ e.index) × (e.index < high)) later → (es : List Entry)
    → both_lag_sums set c 0 (base + lags_of set base) es later ≡ both_lag_sums set c 0 base es later + both_lag_sums set c base (lags_of set base) (placed base low high es) later
window-on set c base low high later near es =
    omega (arith, lags-on First set c base (lags_of set base) es later, lags-on Second set c base (lags_of set base) es later, lags-placed First set c base low high later near es, lags-placed Second set c base low high later near es)

pub both-le : (set : CoincidenceView) (c i n : ℕ) (es later : List Entry) → i ≤ n → both_lag_sums set c 0 i es later ≤ both_lag_sums set c 0 n es later
both-le set c i n es later upto = omega (arith, range-le (lag_pairs First set c es later) 1 i n upto, range-le (lag_pairs Second set c es later) 1 i n upto)

-- the indices of rising entries never fall
pub never-falls : (es : List Entry) → IsRising es → IsNonDecreasingBy (λ (e : Entry). e.index) es
never-falls [] rising i j d upto inside = absurd (omega (arith, inside))
never-falls (e ∷ es) rising zero zero d upto inside = omega arith
never-falls (e ∷ es) rising zero (suc j) d upto inside = search (rules, arith, each_at)
never-falls (e ∷ es) rising (suc i) zero d upto inside = absurd (omega (arith, upto))
never-falls (e ∷ es) rising (suc i) (suc j) d upto inside = never-falls es rising.1 i j d (omega (arith, upto)) (omega (arith, inside))

-- the first of rising entries are below an index, and the others aren't
pub split-rising : (es : List Entry) (n t : ℕ) → IsRising es → ((i : ℕ) → i < n → (e : Entry) → nat_lt (get_or es i e).index t ≡ true)
    → ((i : ℕ) → n ≤ i → i < length es → (e : Entry) → nat_lt (get_or es i e).index t ≡ false)
    → (take n es ≡ filter (λ e. nat_lt e.index t) es) × (drop n es ≡ filter (λ e. nat_le t e.index) es)
split-rising [] zero t rising below above = (refl, refl)
split-rising [] (suc n) t rising below above = (refl, refl)
split-rising (e ∷ es) zero t rising below above =
    let from : t ≤ e.index = grind (arith, nat_tests, above 0 (omega arith) (omega arith) e) in
    (sym (filter_none (λ f. nat_lt f.index t) (e ∷ es) (grind (arith, nat_tests, all_weaker))), sym (filter_passed (λ f. nat_le t f.index) (e ∷ es) (grind (arith, nat_tests, all_weaker))))
split-rising (e ∷ es) (suc n) t rising below above =
    let here : nat_lt e.index t ≡ true = below 0 (omega arith) e in
    let rest = split-rising es n t rising.1 (λ i inside f. below (suc i) (omega (arith, inside)) f) (λ i from inside f. above (suc i) (omega (arith, from)) (omega (arith, inside)) f) in
    search (rules, arith, nat_tests, rest.0, rest.1, here)
