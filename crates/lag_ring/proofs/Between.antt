-- How many entries have an index in a range.
use Rattle.std.proofs.Common.{rules, ◌≡◌, ℕ, zero, suc, ◌+◌, ◌-◌, ◌<◌, ◌≤◌, Bool, true, false, ◌&&◌, ltb, leb, nat_le, List, [], ◌∷◌, length, drop, filter}
use Rattle.std.proofs.{Common.{cond, refl, sym, ap, ◌∙◌, arith, ◌++◌, map}, Math.ListN.drop_of_length-le, lemmas.{Grind.common_steps, List.Sums.sum_by-cons}}
use Rattle.std.proofs.lemmas.List.{Sums.length-filter, append_assoc, length-append, FromFn.{map-range_with_len_more, length-map-range_with_len}}
use Rattle.{std.specs.List.{count_by, AllByRecursion, range_with_len}, lag_ring.specs.{declared.ring.Entry.Entry, Ring.IsRising, Cells.places_from}}
use Rattle.lag_ring.proofs.{Rising.{filter_passed, all_weaker}, Lists.all_both, Sums.sum_by-agree}

abbrev pub between : ℕ → ℕ → Entry → Bool
between low high e = leb low e.index && ltb e.index high

count-step : (low high i n m : ℕ) → n ≤ high - low → m ≤ high - (i + 1) → (leb low i ≡ true → n ≡ m) → cond (leb low i && ltb i high) 1 0 + n ≤ high - low
count-step low high i n m later up same = grind (arith, common_steps, same)

-- at most one entry has each index
pub count-between : (es : List Entry) (low high : ℕ) → IsRising es → count_by (between low high) es ≤ high - low
count-between [] low high rising = omega arith
count-between (e ∷ es) low high rising =
    let later : count_by (between low high) es ≤ high - low = count-between es low high rising.1 in
    let up : count_by (between (e.index + 1) high) es ≤ high - (e.index + 1) = count-between es (e.index + 1) high rising.1 in
    let same : leb low e.index ≡ true → count_by (between low high) es ≡ count_by (between (e.index + 1) high) es = λ from.
    sum_by-agree (λ f. e.index < f.index) (λ f. cond (between low high f) 1 0)
    (λ f. cond (between (e.index + 1) high f) 1 0) es rising.0 (λ f above. grind (arith, common_steps)) in
    rw (sum_by-cons (λ f. cond (between low high f) 1 0) e es) (count-step low high e.index _ _ later up same)

-- entries below an index, and at most some lags before it, are at most that many
pub few_kept : (es : List Entry) (low index : ℕ) → IsRising es → AllByRecursion (λ e. leb low e.index ≡ true) es
    → AllByRecursion (λ e. e.index < index) es → length es ≤ index - low
few_kept es low index rising from below =
    let each : AllByRecursion (λ e. between low index e ≡ true) es =
    all_both (λ e. leb low e.index ≡ true) (λ e. e.index < index) (λ e. between low index e ≡ true) (λ e p q. rw p (grind arith)) es from below in
    let all : count_by (between low index) es ≡ length es =
    sym (length-filter (between low index) es) ∙ ap length (filter_passed (between low index) es each) in
    omega (arith, count-between es low index rising)

cut_by : (before n k : ℕ) (e : Entry) (es : List Entry) → suc (length es) - n ≡ k → IsRising (e ∷ es) → AllByRecursion (λ f. f.index < before + n) (e ∷ es)
    → filter (λ f. nat_le before f.index) (drop (length es - n) es) ≡ filter (λ f. nat_le before f.index) es
    → filter (λ f. nat_le before f.index) (drop k (e ∷ es)) ≡ filter (λ f. nat_le before f.index) (e ∷ es)
cut_by before n zero e es is rising near rest = refl
cut_by before n (suc k) e es is rising near rest =
    let above : AllByRecursion (λ f. leb (e.index + 1) f.index ≡ true) es = all_weaker (λ f. e.index < f.index) (λ f. leb (e.index + 1) f.index ≡ true) (λ f lt. search (rules, arith)) es rising.0 in
    let few = few_kept es (e.index + 1) (before + n) rising.1 above near.1 in
    let lower : e.index < before = omega (arith, few, is, near.0) in
    let out : nat_le before e.index ≡ false = search (rules, arith) in
    let skip : length es - n ≡ k = omega (arith, is) in
    rw out (rw skip at rest)

-- entries that are further from the end than so many are below an index where none reaches so many above it
pub cut_front : (before n : ℕ) (es : List Entry) → IsRising es → AllByRecursion (λ e. e.index < before + n) es
    → filter (λ e. nat_le before e.index) (drop (length es - n) es) ≡ filter (λ e. nat_le before e.index) es
cut_front before n [] rising near = ap (filter (λ e. nat_le before e.index)) (drop_of_length-le {A = Entry} [] {i = length {A = Entry} [] - n} (omega arith))
cut_front before n (e ∷ es) rising near = cut_by before n (suc (length es) - n) e es refl rising near (cut_front before n es rising.1 near.1)

-- Places that were noted one after the other.

more_of : (f : ℕ → ℕ) (xs ys : List ℕ) (n : ℕ) → ys ≡ xs ++ map f (range_with_len 0 n) → ys ++ f n ∷ [] ≡ xs ++ map f (range_with_len 0 (n + 1))
more_of f xs ys n is = search (rules, arith, append_assoc, map-range_with_len_more)

pub places_more : (xs ys : List ℕ) (from n : ℕ) → ys ≡ xs ++ places_from from n → ys ++ (from + n) ∷ [] ≡ xs ++ places_from from (n + 1)
places_more xs ys from n = more_of (λ q. from + q) xs ys n

pub places_length : (xs ys : List ℕ) (from n : ℕ) → ys ≡ xs ++ places_from from n → length ys ≡ length xs + n
places_length xs ys from n is = rw is (omega (arith, length-append xs (places_from from n), length-map-range_with_len (λ q. from + q) 0 n))
