-- Bins that are further apart than the lags, and lists part by part.
use Rattle.lag_ring.{specs.{declared.ring.Entry.Entry, Ring.IsRising}, proofs.{Rising.{all_weaker, all_push}, Lists.{all_front, all_back, all_map, all_both}}}
use Rattle.{lag_ring.proofs.Lists.each_at, tau_cascade.{specs.{Bins.{raised, IsSpaced}, Dense.{paired, paired_from}}, proofs.Nexts.none_at_lag}}
use Rattle.{tau_cascade.proofs.Nexts.{paired-append, take_parts}, std.proofs.Common.{◌≡◌, ℕ, suc, ◌+◌, ◌-◌, ◌/◌, ◌^◌, ◌<◌, ◌≤◌, List, [], ◌∷◌, ◌++◌, length}}
use Rattle.std.proofs.{Common.{map, take, drop, get_or, refl, ap, ◌∙◌, subst, add-one, arith, rules, append_assoc, zero}, Math.Nat.div-mul-le_self}
use Rattle.std.proofs.lemmas.{Nat.{shr-shr, le-div, pow_pos}, List.{take-take, take-map, drop-map, get_or-take, get_or-map, length-map, length-drop}}
use Rattle.std.proofs.lemmas.{List.{length-take-le, take-append-drop, drop-take, drop-drop, Sums.sum_by-append}, Grind.common_steps}
use Rattle.std.specs.List.{AllByRecursion}

-- a distance, some levels up
pub shares : (i d j n : ℕ) → 0 < n → i + d ≤ j → i / n + d / n ≤ j / n
shares i d j n some apart = le-div (i / n + d / n) j n some (omega (arith, apart, div-mul-le_self i n, div-mul-le_self d n))

pub spaced-raised : (d up : ℕ) (es : List Entry) → IsSpaced d es → IsSpaced (d / 2 ^ up) (map (raised up) es)
spaced-raised d up [] spaced = tt
spaced-raised d up (e ∷ es) spaced = grind (arith, common_steps, all_map, all_weaker, shares, pow_pos, spaced-raised d up es spaced.1)

pub spaced_nearer : (d near : ℕ) (es : List Entry) → near ≤ d → IsSpaced d es → IsSpaced near es
spaced_nearer d near [] less spaced = tt
spaced_nearer d near (e ∷ es) less spaced = search (rules, arith, all_weaker, spaced_nearer d near es less spaced.1)

-- bins that rise do not fall
pub spaced-rising : (es : List Entry) → IsRising es → IsSpaced 0 es
spaced-rising [] rising = tt
spaced-rising (e ∷ es) rising = search (rules, arith, all_weaker, spaced-rising es rising.1)

-- the same after an index before them
pub spaced_behind : (d i : ℕ) (e : Entry) (es : List Entry) → i + d ≤ e.index → IsSpaced d (e ∷ es) → AllByRecursion (λ f. i + d ≤ f.index) (e ∷ es)
spaced_behind d i e es first spaced = (first, all_weaker (λ f. e.index + d ≤ f.index) (λ f. i + d ≤ f.index) (λ f apart. omega arith) es spaced.0)

pub all_take : (P : Entry → Type 0) (n : ℕ) (es : List Entry) → AllByRecursion P es → AllByRecursion P (take n es)
all_take P n es all = all_front P (take n es) (drop n es) (rw take-append-drop all)

pub spaced_take : (d n : ℕ) (es : List Entry) → IsSpaced d es → IsSpaced d (take n es)
spaced_take d zero es spaced = tt
spaced_take d (suc n) [] spaced = tt
spaced_take d (suc n) (e ∷ es) spaced = (all_take (λ f. e.index + d ≤ f.index) n es spaced.0, spaced_take d n es spaced.1)

pub spaced_back : (d : ℕ) (es fs : List Entry) → IsSpaced d (es ++ fs) → IsSpaced d fs
spaced_back d [] fs spaced = spaced
spaced_back d (e ∷ es) fs spaced = spaced_back d es fs spaced.1

pub spaced_drop : (d n : ℕ) (es : List Entry) → IsSpaced d es → IsSpaced d (drop n es)
spaced_drop d n es spaced = spaced_back d (take n es) (drop n es) (rw take-append-drop spaced)

pub spaced_one : (d : ℕ) (es : List Entry) → IsSpaced d (take 1 es)
spaced_one d es = search (rules, arith)

-- one bin more
spaced_next : (d i : ℕ) (es : List Entry) (none : Entry) → suc i < length es → IsSpaced d (take (suc i) es) → (get_or es i none).index + d ≤ (get_or es (suc i) none).index → IsSpaced d (take (suc (suc i)) es)
spaced_next d zero (e ∷ f ∷ es) none inside spaced step = search (rules, arith)
spaced_next d (suc i) (e ∷ f ∷ es) none inside spaced step =
    (let rest = spaced_next d i (f ∷ es) none (omega arith) spaced.1 step in (spaced_behind d e.index f (take (suc i) es) spaced.0.0 rest, rest))
spaced_next d i es none inside spaced step = absurd (omega (arith, inside))

pub spaced_more : (d near at' : ℕ) (bins : List Entry) (none : Entry) → 0 < at' → at' < length bins → (0 < d → IsSpaced d (take at' bins)) → near ≤ d
    → near ≤ (get_or bins at' none).index - (get_or bins (at' - 1) none).index → 0 < near → IsSpaced near (take (at' + 1) bins)
spaced_more d near at' bins none some inside were less here more =
    let one : suc (at' - 1) ≡ at' = omega arith in
    let was : IsSpaced near (take at' bins) = spaced_nearer d near (take at' bins) less (were (omega arith)) in
    rw (add-one, ← one) (spaced_next near (at' - 1) bins none (omega arith) (rw one was) (rw one (omega arith)))

-- nothing pairs over more than the lags
paired-far : (lags k : ℕ) → k ≤ lags → (before es : List Entry)
    → AllByRecursion (λ e. AllByRecursion (λ f. f.index + lags < e.index) before) es → IsSpaced (lags + 1) es → paired k before es ≡ 0
paired-far lags k few before [] far spaced = refl
paired-far lags k few before (e ∷ es) far spaced =
    let next : AllByRecursion (λ g. AllByRecursion (λ f. f.index + lags < g.index) (before ++ e ∷ [])) es = all_both (λ g. AllByRecursion (λ f. f.index + lags < g.index) before) (λ g. e.index + (lags + 1) ≤ g.index) (λ g. AllByRecursion (λ f. f.index + lags < g.index) (before ++ e ∷ [])) (λ g back apart. all_push (λ f. f.index + lags < g.index) before e back (omega arith)) es far.1 spaced.0 in
    rw (none_at_lag before lags e.index k far.0 few, paired-far lags k few (before ++ e ∷ []) es next spaced.1) (grind arith)

none_before : (lags : ℕ) (es : List Entry) → AllByRecursion (λ e. AllByRecursion (λ (f : Entry). f.index + lags < e.index) []) es
none_before lags [] = tt
none_before lags (e ∷ es) = (tt, none_before lags es)

-- what the bins from a place on add to what those before it do
paired-whole : (k start : ℕ) (es : List Entry) → paired k [] es ≡ paired k [] (take start es) + paired_from start k es
paired-whole k start es = (rw (take-append-drop start es) at (paired-append k [] (take start es) (drop start es)))

pub paired_apart : (lags k start : ℕ) (list : List Entry) → k ≤ lags → IsSpaced (lags + 1) list → paired_from start k list ≡ 0
paired_apart lags k start list few spaced = omega (arith, paired-whole k start list, paired-far lags k few [] list (none_before lags list) spaced)

-- Lists that do not fall, part by part.

-- no bin from a place on is before the one there
pub from_place : (es : List Entry) (at' : ℕ) (none : Entry) → at' < length es → IsSpaced 0 es
    → AllByRecursion (λ e. (get_or es at' none).index ≤ e.index) (drop at' es)
from_place [] at' none inside sorted = absurd (omega (arith, inside))
from_place (e ∷ es) zero none inside sorted = search (rules, arith, all_weaker)
from_place (e ∷ es) (suc i) none inside sorted = from_place es i none (omega (arith, inside)) sorted.1

-- where one is out of reach, so are those before it
pub far_place : (lags index at' : ℕ) (es : List Entry) (none : Entry) → at' < length es → IsSpaced 0 es
    → (get_or es at' none).index + lags < index → AllByRecursion (λ e. e.index + lags < index) (take (suc at') es)
far_place lags index at' [] none inside sorted far = absurd (omega (arith, inside))
far_place lags index zero (e ∷ es) none inside sorted far = (far, tt)
far_place lags index (suc i) (e ∷ es) none inside sorted far = (
  omega (arith, far, each_at (λ f. e.index + 0 ≤ f.index) es i none (omega (arith, inside)) sorted.0),
  far_place lags index i es none (omega (arith, inside)) sorted.1 far,
)

-- bins that are out of reach add nothing
paired_far : (k lags index : ℕ) (far near es : List Entry) → k ≤ lags → AllByRecursion (λ f. f.index + lags < index) far
    → AllByRecursion (λ e. index ≤ e.index) es → paired k (far ++ near) es ≡ paired k near es
paired_far k lags index far near [] few out from = refl
paired_far k lags index far near (e ∷ es) few out from =
    search (
      rules,
      arith,
      near,
      sum_by-append,
      append_assoc,
      none_at_lag far lags e.index k (search (rules, arith, all_weaker)) few,
      paired_far k lags index far (near ++ e ∷ []) es few out from.1,
    )

-- the bins of a list from a place on pair with those before it that are not out of reach
paired_near : (k lags from at' : ℕ) (es : List Entry) (none : Entry) → k ≤ lags → from ≤ at' → at' < length es → IsSpaced 0 es
    → AllByRecursion (λ f. f.index + lags < (get_or es at' none).index) (take from es)
    → paired_from at' k es ≡ paired_from (at' - from) k (drop from es)
paired_near k lags from at' es none few within inside sorted far =
    let near : List Entry = take (at' - from) (drop from es) in
    rw (take_parts es from at' within) (paired_far k lags (get_or es at' none).index (take from es) near (drop at' es) few far
    (from_place es at' none inside sorted) ∙ ap (paired k near) (search (rules, arith, drop-drop)))

-- the bins of a list from one place to another, some levels up, and those before them that are not out of reach
module _ (levels : ℕ) (list : List Entry) (from at' end' : ℕ) (none : Entry) (within : from ≤ at')
    (more : at' < end') (inside : end' ≤ length list) where
  abbrev up : List Entry
  up = map (raised levels) list

  abbrev part : List Entry
  part = take (end' - from) (drop from list)

  pub part_long : length part ≡ end' - from
  part_long = length-take-le (end' - from) (drop from list) (omega (arith, length-drop from list))

  is_part : drop from (take end' up) ≡ map (raised levels) part
  is_part =
      let cut : drop from (take end' list) ≡ part = subst (λ n. drop from (take n list) ≡ part) (omega arith) (drop-take from (end' - from) list) in
      rw (take-map (raised levels) end' list, drop-map (raised levels) from (take end' list), cut) refl

  module _ (sorted : IsSpaced 0 up) where
    pub part_sorted : IsSpaced 0 (map (raised levels) part)
    part_sorted = rw (← is_part) (spaced_drop 0 from (take end' up) (spaced_take 0 end' up sorted))

    -- what they add
    pub paired_between : (k lags start : ℕ) → k ≤ lags → start ≤ at'
        → AllByRecursion (λ f. f.index + lags < (raised levels (get_or list at' none)).index) (take from up)
        → paired_from start k (take end' up) ≡ paired_from start k (take at' up) + paired_from (at' - from) k (map (raised levels) part)
    paired_between k lags start few behind far =
        let cut : List Entry = take end' up in
        let long : length cut ≡ end' = length-take-le end' up (omega (arith, inside, length-map list (raised levels))) in
        let read : get_or cut at' none ≡ raised levels (get_or list at' none) =
        get_or-take end' up at' none more ∙ get_or-map (raised levels) list at' none none (omega arith) in
        let out : AllByRecursion (λ f. f.index + lags < (get_or cut at' none).index) (take from cut) = rw (take-take from end' up (omega arith), read) far in
        let near = paired_near k lags from at' cut none few within (omega (arith, long, more)) (spaced_take 0 end' up sorted) out in
        let first : paired k [] (take start cut) ≡ paired k [] (take start up) = ap (paired k []) (take-take start end' up (omega arith)) in
        let second : paired k [] (take start (take at' up)) ≡ paired k [] (take start up) = ap (paired k []) (take-take start at' up behind) in
        let third : paired k [] (take at' cut) ≡ paired k [] (take at' up) = ap (paired k []) (take-take at' end' up (omega arith)) in
        search (rules, arith, up, is_part, paired-whole)

-- a bin some levels up, and one level more
pub raised-again : (up : ℕ) (es : List Entry) → map (raised 1) (map (raised up) es) ≡ map (raised (up + 1)) es
raised-again up [] = refl
raised-again up (e ∷ es) = rw (shr-shr e.index up 1, raised-again up es) refl

-- what stands before others in sorted bins is not above the first of them
pub spaced_upto : (rs : List Entry) (e : Entry) (es : List Entry) → IsSpaced 0 (rs ++ e ∷ es) → AllByRecursion (λ r. r.index ≤ e.index) rs
spaced_upto [] e es spaced = tt
spaced_upto (r ∷ rs) e es spaced = (omega (arith, (all_back (λ f. r.index + 0 ≤ f.index) rs (e ∷ es) spaced.0).0), spaced_upto rs e es spaced.1)
