-- How many bins are near to the one before them, and how many share it some levels up.
use Rattle.std.{specs.List.AllByRecursion, proofs.Common.{◌≡◌, ◌≢◌, ℕ, zero, suc, ◌+◌, ◌-◌, ◌*◌, ◌/◌, ◌^◌, ◌<◌, ◌≤◌, true, false, cond, eqb, ltb, List, []}}
use Rattle.std.proofs.{Common.{◌∷◌, length, map, take, drop, get_or, refl, ap, add-one, zero-add, arith, rules}, lemmas.{Bool.Decides.nat_tests, Nat.pow_pos}}
use Rattle.std.proofs.{lemmas.{Grind.common_steps, List.{take-take, drop-drop, length-map}}, Math.{Seq.take-nil, Nat.{div_self, div-mul-le_self}}}
use Rattle.{std.proofs.Math.Nat.mul-le-mul_right, lag_ring.{specs.declared.ring.Entry.Entry, proofs.Rising.all_weaker}}
use Rattle.tau_cascade.specs.{declared.grid.Grid.Grid, Grid.{IsGrid, counted}, Bins.{raised, both_of, merged, merged_all, near, IsSpaced, AreAlike}}
use Rattle.tau_cascade.proofs.{Passes.{shares, spaced-rising}, Near.end_one, Follows.come_merged}

-- one bin more
pub near_more : (d i : ℕ) (es : List Entry) (none : Entry) → suc i < length es
    → near d (take (suc (suc i)) es) ≡ near d (take (suc i) es) + cond (ltb ((get_or es (suc i) none).index - (get_or es i none).index) d) 1 0
near_more d i [] none inside = absurd (omega (arith, inside))
near_more d i (e ∷ []) none inside = absurd (omega (arith, inside))
near_more d zero (e ∷ f ∷ es) none inside = omega arith
near_more d (suc i) (e ∷ f ∷ es) none inside = omega (arith, near_more d i (f ∷ es) none (omega (arith, inside)))

pub near_next : (d at' : ℕ) (es : List Entry) (none : Entry) → 0 < at' → at' < length es
    → near d (take (at' + 1) es) ≡ near d (take at' es) + cond (ltb ((get_or es at' none).index - (get_or es (at' - 1) none).index) d) 1 0
near_next d zero es none some inside = absurd (omega (arith, some))
near_next d (suc i) es none some inside = (let one : suc i - 1 ≡ i = omega arith in rw (add-one, one) (near_more d i es none inside))

pub near_at : (d : ℕ) (es : List Entry) → near d (take 1 es) ≡ 0
near_at d es = search (rules, arith)

-- fewer are near in a part of a list, and one more at most after one bin
pub near_take : (d n : ℕ) (es : List Entry) → near d (take n es) ≤ near d es
near_take d zero es = omega arith
near_take d (suc n) [] = omega arith
near_take d (suc zero) (e ∷ []) = omega arith
near_take d (suc (suc n)) (e ∷ []) = omega arith
near_take d (suc zero) (e ∷ f ∷ es) = omega arith
near_take d (suc (suc n)) (e ∷ f ∷ es) = omega (arith, near_take d (suc n) (f ∷ es))

pub near_behind : (d : ℕ) (e : Entry) (es : List Entry) → near d (e ∷ es) ≤ near d es + 1
near_behind d e es = search (rules, arith)

near_shift : (d k count : ℕ) (es : List Entry) → k ≤ 1 → near d (take (k + count) es) ≤ near d (take count (drop k es)) + 1
near_shift d zero count es few = rw zero-add (omega arith)
near_shift d (suc zero) count [] few = rw (take-nil {A = Entry} (1 + count)) (omega arith)
near_shift d (suc zero) count (e ∷ es) few = (let one : 1 + count ≡ suc count = omega arith in rw one (near_behind d e (take count es)))
near_shift d (suc (suc k)) count es few = absurd (omega (arith, few))

-- of a stretch that begins one place before
pub near_put : (d from first count n : ℕ) (list : List Entry) → from ≤ first → first ≤ from + 1 → n ≤ first + count - from
    → near d (take n (drop from list)) ≤ near d (take count (drop first list)) + 1
near_put d from first count n list order one within =
    let k : ℕ = first - from in
    let there : from + k ≡ first = omega arith in
    let cut : near d (take n (drop from list)) ≤ near d (take (k + count) (drop from list)) = rw (← take-take n (k + count) (drop from list) (omega arith)) (near_take d n (take (k + count) (drop from list))) in
    let back : drop k (drop from list) ≡ drop first list = rw (drop-drop, there) refl in
    omega (arith, cut, near_shift d k count (drop from list) (omega arith), ap (λ ys. near d (take count ys)) back)

pub near_few : (d : ℕ) (es : List Entry) → near d es ≤ length es
near_few d [] = omega arith
near_few d (e ∷ es) = omega (arith, near_behind d e es, near_few d es)

-- none is, where all are as far apart
pub near_none : (d : ℕ) (es : List Entry) → IsSpaced d es → near d es ≡ 0
near_none d [] spaced = refl
near_none d (e ∷ []) spaced = refl
near_none d (e ∷ f ∷ es) spaced = (let rest = near_none d (f ∷ es) spaced.1 in grind (arith, nat_tests, spaced.0.0))

merged_same : (e f : Entry) (es : List Entry) → e.index ≡ f.index → length (merged e es) ≡ length (merged f es)
merged_same e f [] same = refl
merged_same e f (g ∷ es) same = search (rules, arith, nat_tests, merged_same (both_of e g) (both_of f g) es same)

-- those that share a bin are near to the one before them
pub share_near : (d levels : ℕ) (es : List Entry) → 2 ^ levels ≤ d → length es ≤ length (merged_all (map (raised levels) es)) + near d es
share_near d levels [] reach = omega arith
share_near d levels (e ∷ []) reach = omega arith
share_near d levels (e ∷ f ∷ es) reach =
    let rest = share_near d levels (f ∷ es) reach in
    let some : 0 < 2 ^ levels = pow_pos levels in
    let far : d ≤ f.index - e.index → e.index / 2 ^ levels ≢ f.index / 2 ^ levels = λ apart same. absurd (let up = shares e.index (2 ^ levels) f.index (2 ^ levels) some (omega (arith, apart, reach, some)) in omega (arith, up, div_self some, same)) in
    let same = merged_same (both_of (raised levels e) (raised levels f)) (raised levels f) (map (raised levels) es) in
    grind (arith, nat_tests, common_steps, far, same, rest)

-- merged bins stay as they are
merged_once : (e : Entry) (es : List Entry) → merged_all (merged e es) ≡ merged e es
merged_once e [] = refl
merged_once e (f ∷ fs) = (elim (eqb e.index f.index) as (λ b. eqb e.index f.index ≡ b → merged_all (cond b (merged (both_of e f) fs) (e ∷ merged f fs)) ≡ cond b (merged (both_of e f) fs) (e ∷ merged f fs)) [
  | true ↦ λ one. merged_once (both_of e f) fs
  | false ↦ λ two.
      let end = end_one f fs in
      let rest = (rw end.2 at (merged_once f fs)) in
      rw end.2 (grind (arith, nat_tests, common_steps, rest, two, end.3))
]) refl

-- What merging does to the bins that a level closes.

pub near_zero : (es : List Entry) → near 0 es ≡ 0
near_zero [] = refl
near_zero (e ∷ []) = refl
near_zero (e ∷ f ∷ es) = (let rest = near_zero (f ∷ es) in grind (arith, nat_tests, rest))

module _ (d levels : ℕ) (es : List Entry) (reach : 0 < d / 2 ^ levels) where
  reaches : 2 ^ levels ≤ d
  reaches = omega (arith, div-mul-le_self d (2 ^ levels), mul-le-mul_right (2 ^ levels) reach)

  -- bins of which none share one
  pub few_apart : (0 < d → IsSpaced d es) → length (map (raised levels) es) ≤ 2 * length (merged_all (map (raised levels) es))
  few_apart spaced = omega (arith, share_near d levels es reaches, near_none d es (spaced (omega (arith, reaches, pow_pos levels))), length-map es (raised levels))

  -- bins of which at most half do
  pub few_share : (most : ℕ) → near d es ≤ most → most ≤ length es / 2 → length (map (raised levels) es) ≤ 2 * length (merged_all (map (raised levels) es))
  few_share most are few = omega (arith, share_near d levels es reaches, are, few, length-map es (raised levels))

pub alike_merged : (es fs : List Entry) → fs ≡ merged_all es → AreAlike es fs
alike_merged es fs is = search (rules, arith, come_merged, merged_once, spaced-rising)

-- merged bins are no more than there were
merged_few : (e : Entry) (es : List Entry) → length (merged e es) ≤ suc (length es)
merged_few e [] = omega arith
merged_few e (f ∷ fs) = search (rules, arith, nat_tests, merged_few (both_of e f) fs, merged_few f fs)

-- and no more than there are indices from the first to the last
merged_span : (top : ℕ) (e : Entry) (es : List Entry) → IsSpaced 0 (e ∷ es) → AllByRecursion (λ f. f.index < top) (e ∷ es) → length (merged e es) + e.index ≤ top
merged_span top e [] spaced under = omega (arith, under.0)
merged_span top e (f ∷ fs) spaced under = search (rules, arith, nat_tests, merged_span top (both_of e f) fs, merged_span top f fs spaced.1 under.1)

-- so they count at most four times what their list does
pub counts_all : (g : Grid) (es : List Entry) → IsGrid g es → IsSpaced 0 es → length (merged_all es) ≤ 4 * counted g (length es)
counts_all g [] is spaced = omega arith
counts_all g (e ∷ es) is spaced = (let few = merged_few e es in
    let span : 0 < g.len → length (merged e es) ≤ g.len = λ on. (let stands = is.on on in omega (arith, stands.within.0, merged_span (g.base + g.len) e es spaced (all_weaker (λ f. (g.base ≤ f.index) × (f.index < g.base + g.len)) (λ f. f.index < g.base + g.len) (λ f in'. in'.1) (e ∷ es) stands.within))) in
    grind (arith, nat_tests, few, span))
