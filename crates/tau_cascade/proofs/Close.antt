-- Bins that are laid close together.
use Rattle.std.proofs.Common.{◌≡◌, ◌∙◌, ℕ, suc, ◌+◌, ◌-◌, ◌*◌, ◌%◌, ◌<◌, ◌≤◌, eqb, cond, min, List, [], ◌∷◌, ◌++◌, length, get_or, set, map, take, drop}
use Rattle.std.proofs.{Common.{replicate, refl, sym, ap, arith, append_assoc, rules}, Math.Nat.mul-le-mul, lemmas.Bool.Decides.nat_tests}
use Rattle.std.proofs.lemmas.List.{get_or-replicate, length-replicate, take-append-drop, take_more, drop_more, length-map, get_or-map, length-take-le}
use Rattle.std.{proofs.lemmas.List.{get_or_past, set-get_or, Sums.{sum_by-cons, sum_by_push, sum_by-append}}, specs.List.{sum_by, AllByRecursion}}
use Rattle.lag_ring.specs.{declared.{ring.Entry.Entry, window.Side.TheVariants.{First, Second}}, Bytes.{weight_at, product_at, IsLight}}
use Rattle.lag_ring.proofs.{Lists.all_back, Rising.{all_weaker, all_push}, Sums.{part-at, sum_by-agree, sum_by-same, sum_by-zero, window-before}}
use Rattle.tau_cascade.specs.{Levels.weight_before, declared.laid.Laying.Laying, Dense.{paired, laid, placed, IsLaid}, Bins.{IsSpaced, raised}}
use Rattle.tau_cascade.proofs.{Nexts.paired-append, Passes.{spaced_back, all_take, spaced_take, spaced_upto}}

abbrev pub no_bin : Entry
no_bin = record { index = 0; a = 0; b = 0 }

-- a bin that is laid at a place
abbrev pub laid_at : ℕ → Entry → Entry
laid_at place e = record { index = place; a = e.a; b = e.b }

-- Bins at their places.

-- one bin more, whose place is written
pub placed_more : (es : List Entry) (e : Entry) (ps : List ℕ) (p : ℕ) → length es < length ps
    → placed (es ++ e ∷ []) (set ps (length es) p) ≡ placed es ps ++ laid_at p e ∷ []
placed_more [] e [] p inside = absurd (omega (arith, inside))
placed_more [] e (q ∷ ps) p inside = refl
placed_more (f ∷ es) e [] p inside = absurd (omega (arith, inside))
placed_more (f ∷ es) e (q ∷ ps) p inside = ap (λ l. laid_at q f ∷ l) (placed_more es e ps p (omega (arith, inside)))

pub light-raised : (levels most : ℕ) (es : List Entry) → IsLight most (map (raised levels) es) → IsLight most es
light-raised levels most [] light = tt
light-raised levels most (e ∷ es) light = (light.0, light-raised levels most es light.1)

-- products of what is no more than a number are no more than its square
pub products_few : (window ps : List ℕ) (es : List Entry) (most from : ℕ) → ((p : ℕ) → get_or window p 0 ≤ most) → IsLight most es
    → sum_by (product_at Second window 0 from) (placed es ps) ≤ most * most * length es
products_few window ps [] most from low light = omega arith
products_few window [] (e ∷ es) most from low light = omega arith
products_few window (p ∷ ps) (e ∷ es) most from low light =
    let one : get_or window (p - 0 + from) 0 * e.b ≤ most * most = mul-le-mul (low (p - 0 + from)) light.0.1 in
    search (rules, arith, sum_by-cons, laid_at, products_few window ps es most from low light.1)

-- one bin more in a sum
module _ (window ps : List ℕ) (es : List Entry) (i from : ℕ) (inside : i < length es) (fit : length es ≤ length ps) where
  pub placed_next : sum_by (product_at Second window 0 from) (placed (take (i + 1) es) ps) ≡ sum_by (product_at Second window 0 from)
      (placed (take i es) ps) + get_or window (get_or ps i 0 + from) 0 * (get_or es i no_bin).b
  placed_next =
      let long : length (take i es) ≡ i = length-take-le i es (omega (arith, inside)) in
      let push = (rw (long, set-get_or ps i 0) at (placed_more (take i es) (get_or es i no_bin) ps (get_or ps i 0) (omega (arith, long, inside, fit)))) in
      search (rules, arith, laid_at, take_more, sum_by_push, push)

-- the same with a part of the window, and of that the part from its place on
module _ (window ps : List ℕ) (es : List Entry) (i from : ℕ) (inside : i < length es) (fit : length es ≤ length ps)
    (q n m : ℕ) (few : q < n) (room : get_or ps i 0 + n ≤ m) where
  abbrev row : ℕ
  row = get_or (take n (drop (get_or ps i 0) (take m (drop from window)))) q 0 * (get_or es i no_bin).b

  pub row_next : sum_by (product_at Second window 0 (from + q)) (placed (take (i + 1) es) ps)
      ≡ sum_by (product_at Second window 0 (from + q)) (placed (take i es) ps) + row
  row_next = search (rules, arith, part-at, placed_next)

  -- where all are no more than a number, that is no more than so many squares of it
  pub row_few : (most : ℕ) → ((p : ℕ) → get_or window p 0 ≤ most) → IsLight most es
      → sum_by (product_at Second window 0 (from + q)) (placed (take i es) ps) + row ≤ most * most * (i + 1)
  row_few most low light =
      let all : IsLight most (take (i + 1) es) = all_take (λ f. (f.a ≤ most) × (f.b ≤ most)) (i + 1) es light in
      let long : length (take (i + 1) es) ≡ i + 1 = length-take-le (i + 1) es (omega (arith, inside)) in
      omega (arith, row_next, (rw long at (products_few window ps (take (i + 1) es) most (from + q) low all)))

-- zeros are zero
pub zeros_at : (n i : ℕ) → get_or (replicate {A = ℕ} n 0) i 0 ≡ 0
zeros_at n i = search (rules, arith, get_or-replicate, get_or_past, length-replicate)

-- no place of a window is above what no place inside it is above
pub low_all : (window : List ℕ) (most : ℕ) → length window ≡ 8640 → ((p : ℕ) → p < 8640 → get_or window p 0 ≤ most) → (p : ℕ) → get_or window p 0 ≤ most
low_all window most long low p = search (rules, arith, get_or_past)

-- where all places are at most a number, so are bins at them
pub placed_upto : (es : List Entry) (ps : List ℕ) (most : ℕ) → ((i : ℕ) → get_or ps i 0 ≤ most) → AllByRecursion (λ e. e.index ≤ most) (placed es ps)
placed_upto [] ps most low = tt
placed_upto (e ∷ es) [] most low = tt
placed_upto (e ∷ es) (p ∷ ps) most low = (low 0, placed_upto es ps most (λ i. low (suc i)))

-- bins are laid one after the other
laid_behind : (reach index place : ℕ) (es : List Entry) → AllByRecursion (λ f. place + 0 ≤ f.index) (laid reach index place es)
laid_behind reach index place [] = tt
laid_behind reach index place (e ∷ es) = search (rules, arith, all_weaker, laid_behind reach e.index (place + min (e.index - index) reach) es)

laid_spaced : (reach index place : ℕ) (es : List Entry) → IsSpaced 0 (laid reach index place es)
laid_spaced reach index place [] = tt
laid_spaced reach index place (e ∷ es) = search (rules, arith, laid_behind, laid_spaced reach e.index (place + min (e.index - index) reach) es)

-- of bins that don't fall, so many levels up, none is before the first
pub from_first : (levels : ℕ) (es : List Entry) → IsSpaced 0 (map (raised levels) es)
    → AllByRecursion (λ e. (raised levels (get_or es 0 no_bin)).index ≤ e.index) (map (raised levels) es)
from_first levels [] spaced = tt
from_first levels (e ∷ es) spaced = search (rules, arith, all_weaker)

-- a bin so many levels up, and those before it
module _ (levels : ℕ) (list : List Entry) (i : ℕ) (inside : i < length list) where
  abbrev pub ups : List Entry
  ups = map (raised levels) list

  abbrev pub here : Entry
  here = raised levels (get_or list i no_bin)

  read : get_or ups i no_bin ≡ here
  read = get_or-map (raised levels) list i no_bin no_bin inside

  within : i < length ups
  within = omega (arith, inside, length-map list (raised levels))

  pub cut : take (i + 1) ups ≡ take i ups ++ here ∷ []
  cut = (rw read at (take_more ups i no_bin within))

  parts : take i ups ++ here ∷ drop (i + 1) ups ≡ ups
  parts = (rw (drop_more ups i no_bin within, read) at (take-append-drop i ups))

  pub under : IsSpaced 0 ups → AllByRecursion (λ e. e.index ≤ here.index) (take i ups)
  under spaced = spaced_upto (take i ups) here (drop (i + 1) ups) (rw parts spaced)

  pub over : {first : ℕ} → AllByRecursion (λ e. first ≤ e.index) ups → first ≤ here.index
  over {first} all = (all_back (λ e. first ≤ e.index) (take i ups) (here ∷ drop (i + 1) ups) (rw parts all)).0

  -- the last one laid before it is no further
  pub behind_last : {window : List ℕ} {reach first : ℕ} {laying : Laying} → IsLaid window reach first laying (take i ups) → IsSpaced 0 ups
      → AllByRecursion (λ e. first ≤ e.index) ups → laying.index ≤ here.index
  behind_last are spaced all = are.upto here.index (over all) (under spaced)

-- a bin more is laid
module _ (window new : List ℕ) (reach index : ℕ) (was now : Laying) (es : List Entry) (e : Entry) (are : IsLaid window reach index was es)
    (up : was.index ≤ e.index) (last : (now.index ≡ e.index) × (now.place ≡ was.place + min (e.index - was.index) reach))
    (heaviest : (was.heaviest ≤ now.heaviest) × (e.a ≤ now.heaviest) × (e.b ≤ now.heaviest))
    (weights : (p : ℕ) → p < 8640
    → get_or new p 0 ≡ cond (eqb (now.place + 192) p) ((get_or window p 0 + e.a % 65536) % 65536) (get_or window p 0))
    (light : get_or window (now.place + 192) 0 + e.a % 65536 ≤ now.heaviest) where
  pub push : laid reach index 0 (es ++ e ∷ []) ≡ laid reach index 0 es ++ laid_at now.place e ∷ []
  push = rw last.1 (are.next (e ∷ []))

  weight_next : (q : ℕ) → weight_at First 192 0 q (laid reach index 0 (es ++ e ∷ []))
      ≡ weight_at First 192 0 q (laid reach index 0 es) + cond (eqb (now.place + 192) q) e.a 0
  weight_next q = search (rules, arith, push, sum_by_push, laid_at)

  pub laid_more : IsLaid new reach index now (es ++ e ∷ [])
  laid_more = record {
    weights = λ few p inside.
        let had = are.weights (omega (arith, few, heaviest.0)) p inside in
        grind (arith, nat_tests, weights p inside, weight_next p, had, are.light p inside, heaviest);
    light = λ p inside. rw (weights p inside) (grind (arith, nat_tests, are.light p inside, heaviest, light));
    behind = λ p far inside. grind (arith, nat_tests, weights p inside, are.behind p (omega (arith, far, last.1)) inside);
    heaviest = search (rules, arith, all_push, all_weaker, are.heaviest, heaviest);
    next = λ rest. rw (last.0, last.1) (search (rules, arith, laid_at, append_assoc, are.next));
    upto = λ most some all. omega (arith, last.0, (all_back (λ f. f.index ≤ most) es (e ∷ []) all).0);
    near = omega (arith, last, are.near, up);
  }

-- bins that aren't before an index count nowhere
before_only : (k index : ℕ) (es fs : List Entry) → 0 < k → AllByRecursion (λ f. index + 0 ≤ f.index) fs
    → weight_before k index (es ++ fs) ≡ weight_before k index es
before_only k index es fs some after = search (rules, arith, sum_by-zero, sum_by-append)

-- what bins add, where all bins of a list stand before them
pub paired-all : (k : ℕ) (all before es : List Entry) → 0 < k → before ++ es ≡ all
    → IsSpaced 0 es → paired k before es ≡ sum_by (λ e. weight_before k e.index all * e.b) es
paired-all k all before [] some is spaced = refl
paired-all k all before (e ∷ es) some is spaced =
    let here : weight_before k e.index all ≡ weight_before k e.index before =
    ap (weight_before k e.index) (sym is) ∙ before_only k e.index before (e ∷ es) some (omega arith, spaced.0) in
    rw (
      sum_by-cons (λ f. weight_before k f.index all * f.b) e es,
      here,
      ← paired-all k all (before ++ e ∷ []) es some (append_assoc before (e ∷ []) es ∙ is) spaced.1,
    ) refl

-- an index more and a lag more are the same
weight_shift : (k j m i : ℕ) (es : List Entry) → j + m ≡ i + k → weight_before k j es ≡ weight_before m i es
weight_shift k j m i es same = search (rules, arith, sum_by-same)

-- what stands so far before a bin, less than the reach, stands as far before the place where it is laid
pub record Alike (reach index place : ℕ) (before beside : List Entry) : Type 0 where
  pub upto : AllByRecursion (λ f. f.index ≤ index) before
  pub laid_upto : AllByRecursion (λ f. f.index ≤ place) beside
  pub same : (m : ℕ) → m < reach → weight_before m index before ≡ weight_before m place beside

module _ (reach index place : ℕ) (before beside : List Entry) (alike : Alike reach index place before beside) (e : Entry) (up : index + 0 ≤ e.index) where
  abbrev pub there : ℕ
  there = place + min (e.index - index) reach

  near : (k : ℕ) → k < reach → e.index - index ≤ k → weight_before k e.index before ≡ weight_before k there beside
  near k few close =
      let m : ℕ = k - (e.index - index) in
      weight_shift k e.index m index before (omega (arith, close, up)) ∙ alike.same m (omega (arith, few))
      ∙ weight_shift m place k there beside (omega (arith, few, close))

  far : (k : ℕ) → k < reach → k < e.index - index → weight_before k e.index before ≡ weight_before k there beside
  far k few out = search (rules, arith, sum_by-zero)

  pub as_far : (k : ℕ) → k < reach → weight_before k e.index before ≡ weight_before k there beside
  as_far k few = grind (arith, near k few, far k few)

  pub alike_next : Alike reach e.index there (before ++ e ∷ []) (beside ++ laid_at there e ∷ [])
  alike_next = record {
    upto = search (rules, arith, all_push, all_weaker, alike.upto);
    laid_upto = search (rules, arith, all_push, all_weaker, alike.laid_upto);
    same = λ m few.
        let test : eqb (e.index + m) e.index ≡ eqb (there + m) there = grind (arith, nat_tests) in
        sum_by_push (λ (f : Entry). cond (eqb (f.index + m) e.index) f.a 0) before e
        ∙ rw (as_far m few, test) refl
        ∙ sym (sum_by_push (λ (f : Entry). cond (eqb (f.index + m) there) f.a 0) beside (laid_at there e));
  }

-- bins pair as they do where they are laid
paired_alike : (reach index place k : ℕ) (before beside es : List Entry) → k < reach → Alike reach index place before beside
    → AllByRecursion (λ f. index + 0 ≤ f.index) es → IsSpaced 0 es → paired k before es ≡ paired k beside (laid reach index place es)
paired_alike reach index place k before beside [] few alike up spaced = refl
paired_alike reach index place k before beside (e ∷ es) few alike up spaced =
    let here : ℕ = place + min (e.index - index) reach in
    let next = alike_next reach index place before beside alike e up.0 in
    rw (
      as_far reach index place before beside alike e up.0 k few,
      paired_alike reach e.index here k (before ++ e ∷ []) (beside ++ laid_at here e ∷ []) es few next spaced.0 spaced.1,
    ) refl

paired_laid : (reach index place k : ℕ) (es : List Entry) → k < reach → IsSpaced 0 es → paired k [] es ≡ paired k [] (laid reach index place es)
paired_laid reach index place k [] few spaced = refl
paired_laid reach index place k (e ∷ es) few spaced = search (rules, arith, laid_at, paired_alike)

-- the same of bins after others
module _ (reach first start : ℕ) (list back : List Entry) (spaced : IsSpaced 0 list)
    (both : laid reach first 0 list ≡ laid reach first 0 (take start list) ++ back) where
  abbrev all : List Entry
  all = laid reach first 0 list

  abbrev front : List Entry
  front = laid reach first 0 (take start list)

  paired_parts : (k : ℕ) → k < reach → paired k (take start list) (drop start list) ≡ paired k front back
  paired_parts k few =
      let whole = paired_laid reach first 0 k list few spaced in
      let before = paired_laid reach first 0 k (take start list) few (spaced_take 0 start list spaced) in
      let here = paired-append k [] (take start list) (drop start list) in
      search (rules, arith, take-append-drop, paired-append, front, both)

  -- and what stands in the window are the pairs
  pub laid-paired : (window : List ℕ) (most : ℕ) → length window ≡ 8640 → most + 192 < 8640 → AllByRecursion (λ e. e.index ≤ most) back
      → ((q : ℕ) → q < 8640 → get_or window q 0 ≡ weight_at First 192 0 q all) → (k : ℕ) → 0 < k → k < reach → k ≤ 192
      → sum_by (product_at Second window 0 (192 - k)) back ≡ paired k (take start list) (drop start list)
  laid-paired window most long room within has k some few upto =
      let whole : (q : ℕ) → q < length window → get_or window q 0 ≡ weight_at First 192 0 q all = λ q inside. has q (omega (arith, long, inside)) in
      sum_by-agree (λ e. e.index ≤ most) (λ e. get_or window (e.index - 0 + (192 - k)) 0 * e.b)
      (λ e. weight_before k e.index all * e.b) back within
      (λ e at. ap (λ n. n * e.b) (window-before First window 0 192 all whole k e.index upto (omega arith) (omega (arith, at, long, room))))
      ∙ sym (paired-all k all front back some (sym both) (spaced_back 0 front back (rw both at (laid_spaced reach first 0 list))))
      ∙ sym (paired_parts k few)
