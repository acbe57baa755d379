-- The bins before a tick are counted.
use Rattle.std.proofs.Common.{◌≡◌, ◌∙◌, ℕ, ◌+◌, ◌-◌, ◌^◌, ◌<◌, ◌≤◌, Bool, true, ◌&&◌, cond, ltb, leb, eqb, List, [], ◌∷◌, ◌++◌, filter, length, get_or, sym}
use Rattle.std.{proofs.{Common.{arith, slice_index, rules}, lemmas.{Bool.cases_lt, List.Sums.sum_by_push}}, specs.List.{list_any, count_by, AllByRecursion}}
use Rattle.{tally_base.{specs.{Settings.FoldView, Tally.History}, proofs.Sums.{count_same, count_parts}}, lag_ring.specs.declared.ring.Entry.Entry}
use Rattle.{lag_ring.proofs.{Rising.{all_push, all_weaker}, Lists.all_filter, Sums.sum_by-agree}, fold_count.specs.FoldCounts.{is_seen, seen_set}}
use Rattle.fold_count.{specs.Folded.{photons_of, is_from, met_from, Parted, AreCounts}, proofs.Numbers.{number_agree, number_none, any_agree, any_none}}
use Rattle.fold_count.proofs.Bins.{where_kept, of_known}

within : (of from to : Bool) → to ≡ true → (of && (from && to)) ≡ (of && from)
within of from to is = search (rules, arith)

-- where no photon is after a window, its set is that of the groups with a photon from its first tick on
pub known : (set : FoldView) (tick : ℕ) (h : History) → AllByRecursion (λ x. x.0.time ≤ tick) h
    → (t : ℕ) → tick ≤ t + set.window → seen_set set h t ≡ met_from set.groups h t
known set tick h upto t near =
    number_agree (λ group. list_any (is_seen set.window t group) h) (λ group. list_any (is_from group t) h) set.groups
    (λ k inside. any_agree (λ x. x.0.time ≤ tick) (is_seen set.window t (get_or set.groups k 0)) (is_from (get_or set.groups k 0) t) h upto (λ x le. search (rules, arith, within)))

-- no photon comes after the last tick
pub met_none : (groups : List ℕ) (tick t : ℕ) (h : History) → tick < t → AllByRecursion (λ x. x.0.time ≤ tick) h → met_from groups h t ≡ 0
met_none groups tick t h lt upto = number_none (λ group. list_any (is_from group t) h) groups (λ group. any_none (λ x. x.0.time ≤ tick) (is_from group t) h upto (λ x le. search (rules, arith)))

-- A photon is before the front, or between it and a later one, or neither.
pieces : (t front before pat digits s : ℕ) → front ≤ before → (front ≤ t → pat ≡ digits)
    → cond (ltb t front && eqb pat s) 1 0 + cond (leb front t && (ltb t before && eqb digits s)) 1 0 ≡ cond (ltb t before && eqb pat s) 1 0
pieces t front before pat digits s le same = search (rules, arith, cases_lt)

module _ (set : FoldView) (cells : List ℕ) (bins : List Entry) (tick : ℕ) (h : History) (is : Parted set cells bins tick h) where
  -- the cells once the bins before a tick are counted
  counted_before : (cells' : List ℕ) (before s : ℕ) → tick - set.window ≤ before → s < 2 ^ length set.groups
      → slice_index cells' s ≡ slice_index cells s + photons_of before s bins → slice_index cells' s ≡ count_by (λ x. ltb x.0.time before && eqb (seen_set set h x.0.time) s) h
  counted_before cells' before s le inside now =
      let front : ℕ = tick - set.window in
      let more = is.kept (λ t. ltb t before && eqb (met_from set.groups h t) s) in
      let sets = of_known (met_from set.groups h) before s bins is.met in
      let all = count_parts (λ x. ltb x.0.time front && eqb (seen_set set h x.0.time) s)
      (λ x. leb front x.0.time && (ltb x.0.time before && eqb (met_from set.groups h x.0.time) s))
      (λ x. ltb x.0.time before && eqb (seen_set set h x.0.time) s)
      (λ x. pieces x.0.time front before (seen_set set h x.0.time) (met_from set.groups h x.0.time) s le (λ from. known set tick h is.upto x.0.time (omega (arith, from)))) h in
      omega (arith, is.counted s inside, now, more, sets, all)

  -- A bin without photons opens at a later tick.
  pub parted_later : (cells' : List ℕ) (index : ℕ) → tick < index
      → ((s : ℕ) → s < 2 ^ length set.groups → slice_index cells' s ≡ slice_index cells s + photons_of (index - set.window) s bins)
      → Parted set cells' (filter (λ e. leb (index - set.window) e.index) bins ++ record { index = index; a = 0; b = 0 } ∷ []) index h
  parted_later cells' index after now =
      let before : ℕ = index - set.window in
      let late : List Entry = filter (λ e. leb before e.index) bins in
      let opened : Entry = record { index = index; a = 0; b = 0 } in
      record {
        counted = λ s inside. counted_before cells' before s (omega (arith, after)) inside (now s inside);
        kept = λ test.
            let same = count_same (λ x. leb (tick - set.window) x.0.time && (leb before x.0.time && test x.0.time)) (λ x. leb before x.0.time && test x.0.time)
            (λ x. search (rules, arith, cases_lt)) h in
            let none : ◌≡◌ {A = ℕ} (cond (test index) 0 0) 0 = search (rules, arith) in
            omega (arith, sum_by_push (λ (e : Entry). cond (test e.index) e.a 0) late opened, none, where_kept test before bins, is.kept (λ t. leb before t && test t), same);
        met = all_push (λ e. e.b ≡ met_from set.groups h e.index) late opened (all_filter (λ e. e.b ≡ met_from set.groups h e.index) (λ e. leb before e.index) bins is.met) (sym (met_none set.groups tick index h after is.upto));
        upto = all_weaker (λ x. x.0.time ≤ tick) (λ x. x.0.time ≤ index) (λ x upto. omega (arith, upto, after)) h is.upto;
      }

  -- Where all bins are before the tick, the cells are the counts.
  pub counts_all : (cells' : List ℕ)
      → ((s : ℕ) → s < 2 ^ length set.groups → slice_index cells' s ≡ slice_index cells s + photons_of (tick + 1) s bins)
      → AreCounts set cells' h
  counts_all cells' now = λ s inside.
      counted_before cells' (tick + 1) s (omega arith) inside (now s inside)
      ∙ sum_by-agree (λ x. x.0.time ≤ tick) (λ x. cond (ltb x.0.time (tick + 1) && eqb (seen_set set h x.0.time) s) 1 0)
      (λ x. cond (eqb (seen_set set h x.0.time) s) 1 0) h is.upto (λ x upto. search (rules, arith))
