-- Bins in which the groups of those after them were met too, and what is kept of them stays sound.
use Rattle.std.proofs.Common.{◌≡◌, ◌∙◌, ℕ, zero, suc, true, cond, ◌+◌, ◌^◌, ◌<◌, Bool, List, [], ◌∷◌, ◌++◌, filter, length, refl, sym, ap, arith, slice_get}
use Rattle.std.{proofs.{Common.{Some, bit_or, slice_set, rules, ◌≤◌, leb}, lemmas.{List.Folds.fold-map, Nat.{or_lt, pow_pos}}}, specs.Int.Bits.or_zero_r}
use Rattle.{std.specs.List.AllByRecursion, tally_base.specs.{Settings.FoldView, Limits.time_limit}, lag_ring.specs.{declared.ring.Entry.Entry, Ring.Ring}}
use Rattle.lag_ring.{specs.Ring.ring as ring_of, proofs.{Rising.{all_push, all_weaker, all_at}, Lists.{all_back, all_map, all_filter, all_both, all_passed}}}
use Rattle.fold_count.{specs.Folded.{met_in, photons_in, photons_where, IsNested, IsSound, AreHeld, as_met}, proofs.Numbers.{or_assoc, or_again, or_within}}
use Rattle.fold_count.proofs.Numbers.{or_both}

-- ## Bins with more groups

abbrev pub join : ℕ → Entry → Entry
join groups e = record { index = e.index; a = e.a; b = bit_or e.b groups }

join_same : (groups : ℕ) (e : Entry) → bit_or e.b groups ≡ e.b → join groups e ≡ e
join_same groups e is = ap (λ (b : ℕ). record { index = e.index; a = e.a; b = b }) is

pub where_met_in : (test : ℕ → Bool) (groups : ℕ) (bins : List Entry) → photons_where test (met_in groups bins) ≡ photons_where test bins
where_met_in test groups bins = fold-map (λ n (e : Entry). n + cond (test e.index) e.a 0) (join groups) 0 bins

pub photons_met_in : (groups : ℕ) (bins : List Entry) → photons_in (met_in groups bins) ≡ photons_in bins
photons_met_in groups bins = where_met_in (λ t. true) groups bins

-- no groups more
pub met_in_none : (bins : List Entry) → met_in 0 bins ≡ bins
met_in_none [] = refl
met_in_none (e ∷ bins) =
    let here : join 0 e ≡ e = join_same 0 e (or_zero_r e.b) in
    search (rules, arith, met_in_none bins)

pub last_of : {X : Type 0} (P : X → Type 0) (xs : List X) (y : X) → AllByRecursion P (xs ++ y ∷ []) → P y
last_of P xs y all = (all_back P xs (y ∷ []) all).0

pub sets_met_in : (n : ℕ) (bins : List Entry) (bin : Entry) → AllByRecursion (λ e. e.b < 2 ^ n) (bins ++ bin ∷ [])
    → AllByRecursion (λ e. e.b < 2 ^ n) (met_in bin.b bins ++ bin ∷ [])
sets_met_in n [] bin sets = sets
sets_met_in n (e ∷ bins) bin sets = (or_lt n e.b bin.b sets.0 (last_of (λ e. e.b < 2 ^ n) bins bin sets.1), sets_met_in n bins bin sets.1)

-- what each bin met, once one photon more came to the open one
pub met_behind : (f g : ℕ → ℕ) (was more tick : ℕ) → ((t : ℕ) → t < tick → bit_or (f t) more ≡ g t)
    → (bins : List Entry) → AllByRecursion (λ e. e.index < tick) bins
    → AllByRecursion (λ e. e.b ≡ f e.index) (met_in was bins) → AllByRecursion (λ e. e.b ≡ g e.index) (met_in (bit_or was more) bins)
met_behind f g was more tick step [] above met = tt
met_behind f g was more tick step (e ∷ bins) above met =
    (sym (or_assoc e.b was more) ∙ ap (λ n. bit_or n more) met.0 ∙ step e.index above.0, met_behind f g was more tick step bins above.1 met.1)

-- ## Nested bins

pub nested_met : (bins : List Entry) (bin : Entry) → IsNested bins → IsNested (met_in bin.b bins ++ bin ∷ [])
nested_met [] bin nested = (tt, tt)
nested_met (e ∷ bins) bin nested = (
  all_push (λ f. bit_or (bit_or e.b bin.b) f.b ≡ bit_or e.b bin.b) (met_in bin.b bins) bin
      (all_map (λ f. bit_or (bit_or e.b bin.b) f.b ≡ bit_or e.b bin.b) (join bin.b) bins (all_weaker (λ f. bit_or e.b f.b ≡ e.b) (λ f. bit_or (bit_or e.b bin.b) (bit_or f.b bin.b) ≡ bit_or e.b bin.b) (λ f is. or_both e.b f.b bin.b is) bins nested.0))
      (or_again e.b bin.b),
  nested_met bins bin nested.1,
)

pub nested_filter : (p : Entry → Bool) (bins : List Entry) → IsNested bins → IsNested (filter p bins)
nested_filter p [] nested = tt
nested_filter p (e ∷ bins) nested = search (rules, arith, all_filter, nested_filter p bins nested.1)

-- ## The walk from the newest back

-- the bins, where these groups were met in all but the first so many of them
abbrev pub partly : ℕ → ℕ → List Entry → List Entry
partly zero groups bins = met_in groups bins
partly (suc i) groups [] = []
partly (suc i) groups (e ∷ bins) = e ∷ partly i groups bins

pub partly_none : (groups : ℕ) (bins : List Entry) → partly (length bins) groups bins ≡ bins
partly_none groups [] = refl
partly_none groups (e ∷ bins) = ap (λ xs. e ∷ xs) (partly_none groups bins)

pub length_partly : (i groups : ℕ) (bins : List Entry) → length (partly i groups bins) ≡ length bins
length_partly zero groups [] = refl
length_partly zero groups (e ∷ bins) = ap suc (length_partly zero groups bins)
length_partly (suc i) groups [] = refl
length_partly (suc i) groups (e ∷ bins) = ap suc (length_partly i groups bins)

pub partly_step : (i groups : ℕ) (bins : List Entry) (e : Entry) → slice_get (partly (suc i) groups bins) i ≡ Some e
    → slice_set (partly (suc i) groups bins) i (join groups e) ≡ partly i groups bins
partly_step i groups [] e at = cc
partly_step zero groups (x ∷ bins) e at = search (rules, arith, join)
partly_step (suc i) groups (x ∷ bins) e at = ap (λ xs. x ∷ xs) (partly_step i groups bins e at)

partly_at : (i groups : ℕ) (bins : List Entry) → slice_get (partly (suc i) groups bins) i ≡ slice_get bins i
partly_at i groups [] = refl
partly_at zero groups (x ∷ bins) = refl
partly_at (suc i) groups (x ∷ bins) = partly_at i groups bins

-- where all were met in a bin already, they were in those before it
pub partly_all : (i groups : ℕ) (bins : List Entry) (e : Entry) → IsNested bins
    → slice_get (partly (suc i) groups bins) i ≡ Some e → bit_or e.b groups ≡ e.b → partly (suc i) groups bins ≡ met_in groups bins
partly_all i groups [] e nested at is = cc
partly_all zero groups (x ∷ bins) e nested at is = search (rules, arith, join_same)
partly_all (suc i) groups (x ∷ bins) e nested at is =
    let here : bit_or x.b e.b ≡ x.b = all_at (λ f. bit_or x.b f.b ≡ x.b) bins i e (sym (partly_at i groups bins) ∙ at) nested.0 in
    search (rules, arith, partly, join_same, or_within, join, partly_all i groups bins e nested.1)

pub ring_is : (r : Ring) (es : List Entry) (n : ℕ) → r.entries ≡ es → r.reach ≡ n → r ≡ ring_of es n
ring_is r es n entries reach = λ i. record { entries = entries i; reach = reach i }

-- those that are kept from a tick on are before one that is not after it only where the open one is
pub kept_below : (ring : Ring) (bin : Entry) (before tick : ℕ) → AllByRecursion (λ e. e.index < bin.index) ring.entries
    → (before ≤ bin.index → bin.index < tick) → AllByRecursion (λ e. e.index < tick) (filter (λ e. leb before e.index) (as_met ring bin))
kept_below ring bin before tick above lt =
    let upto = all_push (λ e. e.index ≤ bin.index) (met_in bin.b ring.entries) bin (all_map (λ e. e.index ≤ bin.index) (join bin.b) ring.entries (all_weaker (λ e. e.index < bin.index) (λ e. e.index ≤ bin.index) (λ e lt. omega (arith, lt)) ring.entries above)) (omega arith) in
    search (rules, arith, all_both, all_passed, all_filter)

-- what is sound can be counted
pub can_settle : (set : FoldView) (cells : List ℕ) (ring : Ring) (bin : Entry) → IsSound set cells ring bin → AreHeld cells ring bin
can_settle set cells ring bin is = record { inside = rw is.sized (sets_met_in (length set.groups) ring.entries bin is.sets); nested = is.nested; within = is.within; above = is.above }

-- a bin without photons opens, or nothing waits any more
pub sound_later : (set : FoldView) (cells cells' : List ℕ) (ring : Ring) (bin : Entry) (before tick : ℕ) → IsSound set cells ring bin
    → length cells' ≡ length cells → length (filter (λ e. leb before e.index) (as_met ring bin)) ≤ ring.reach → (before ≤ bin.index → bin.index < tick) → tick ≤ time_limit
    → IsSound set cells' (ring_of (filter (λ e. leb before e.index) (as_met ring bin)) ring.reach) (record { index = tick; a = 0; b = 0 })
sound_later set cells cells' ring bin before tick is same within lt in_time =
    let late : Entry → Bool = λ e. leb before e.index in
    let met : List Entry = as_met ring bin in
    record {
      sized = same ∙ is.sized;
      reach = is.reach;
      within = within;
      above = kept_below ring bin before tick is.above lt;
      in_time = in_time;
      sets = all_push (λ e. e.b < 2 ^ length set.groups) (filter late met) (record { index = tick; a = 0; b = 0 }) (all_filter (λ e. e.b < 2 ^ length set.groups) late met (sets_met_in (length set.groups) ring.entries bin is.sets)) (pow_pos (length set.groups));
      nested = nested_filter late met (nested_met ring.entries bin is.nested);
    }
