-- One event more.
use Rattle.std.proofs.Common.{◌≡◌, ◌∙◌, ℕ, ◌+◌, ◌-◌, ◌<◌, ◌≤◌, Bool, true, false, ◌&&◌, ◌||◌, cond, ltb, leb, eqb, List, [], ◌∷◌, ◌++◌, get_or, refl, sym, ap}
use Rattle.std.proofs.{Common.{arith, slice_index, bit_or, rules, append-nil}, lemmas.{Bool.cases_lt, List.{Sums.sum_by_push, Elements.filter-append}}}
use Rattle.{std.specs.List.{list_any, AllByRecursion}, tally_base.specs.{declared.event.Event.Event, Events.{is_photon, is_in}, Settings.FoldView}}
use Rattle.{tally_base.{specs.Tally.History, proofs.Sums.count_same}, lag_ring.{specs.{declared.ring.Entry.Entry, Ring.Ring}, proofs.Rising.all_push}}
use Rattle.{lag_ring.proofs.Lists.all_front, fold_count.specs.{FoldCounts.{is_of_any, is_seen, number_of, seen_set}, Folded.{is_from, met_from, met_in}}}
use Rattle.fold_count.{specs.Folded.{photons, Parted, Stands, Counts}, proofs.{Numbers.{number_agree, number_none, number_or, any_push}, Nested.where_met_in}}
use Rattle.fold_count.proofs.Nested.{met_behind, last_of}

-- an event that is of none of the groups brings no photon
pub photons_same : (set : FoldView) (h : History) (x : Event × ℕ) → is_of_any set.groups x ≡ false → photons set (h ++ x ∷ []) ≡ photons set h
photons_same set h x none = filter-append (is_of_any set.groups) h (x ∷ []) ∙ (rw none (append-nil (photons set h)))

-- A fold of no events.
pub parted_empty : (set : FoldView) (cells : List ℕ) → ((s : ℕ) → slice_index cells s ≡ 0)
    → Parted set cells (record { index = 0; a = 0; b = 0 } ∷ []) 0 []
parted_empty set cells zeros = record {
  counted = λ s inside. zeros s;
  kept = λ test. search (rules, arith);
  met = (sym (number_none (λ group. list_any (is_from group 0) []) set.groups (λ group. refl)), tt);
  upto = tt;
}

-- Where a photon isn't seen, the set stays.
set_same : (set : FoldView) (h : History) (x : Event × ℕ) (t : ℕ)
    → ((group : ℕ) → is_seen set.window t group x ≡ false) → seen_set set (h ++ x ∷ []) t ≡ seen_set set h t
set_same set h x t unseen = number_agree (λ group. list_any (is_seen set.window t group) (h ++ x ∷ [])) (λ group. list_any (is_seen set.window t group) h) set.groups (λ k inside. let none = unseen (get_or set.groups k 0) in search (rules, arith, any_push))

-- The groups met from a tick on, once a photon came there or later.
met_more : (set : FoldView) (h : History) (x : Event × ℕ) (t : ℕ) → is_photon x.0 ≡ true → t ≤ x.0.time
    → met_from set.groups (h ++ x ∷ []) t ≡ bit_or (met_from set.groups h t) (number_of (λ group. is_in x.1 group) set.groups)
met_more set h x t photon le =
    number_agree (λ group. list_any (is_from group t) (h ++ x ∷ [])) (λ group. list_any (is_from group t) h || is_in x.1 group) set.groups
    (λ k inside. search (rules, arith, any_push))
    ∙ number_or (λ group. list_any (is_from group t) h) (λ group. is_in x.1 group) set.groups

-- A photon of at least one of the groups joins the open bin.
pub parted_photon : (set : FoldView) (cells : List ℕ) (kept : List Entry) (bin : Entry) (h : History) (x : Event × ℕ)
    → is_photon x.0 ≡ true → x.0.time ≡ bin.index → AllByRecursion (λ e. e.index < bin.index) kept
    → Parted set cells (met_in bin.b kept ++ bin ∷ []) bin.index h
    → (here : ℕ) → number_of (λ group. is_in x.1 group) set.groups ≡ here
    → Parted set cells (met_in (bit_or bin.b here) kept ++ record { index = bin.index; a = bin.a + 1; b = bit_or bin.b here } ∷ []) bin.index (h ++ x ∷ [])
parted_photon set cells kept bin h x photon at above is here is_here =
    let front : ℕ = bin.index - set.window in
    let bin' : Entry = record { index = bin.index; a = bin.a + 1; b = bit_or bin.b here } in
    let sets : (t : ℕ) → t < front → seen_set set (h ++ x ∷ []) t ≡ seen_set set h t = λ t lt. set_same set h x t (λ group. search (rules, arith)) in
    let more : (t : ℕ) → t ≤ bin.index → bit_or (met_from set.groups h t) here ≡ met_from set.groups (h ++ x ∷ []) t = λ t le. ap (bit_or (met_from set.groups h t)) (sym is_here) ∙ sym (met_more set h x t photon (omega (arith, le, at))) in
    record {
      counted = λ s inside.
          let new : Event × ℕ → Bool = λ y. ltb y.0.time front && eqb (seen_set set (h ++ x ∷ []) y.0.time) s in
          let old = count_same new (λ y. ltb y.0.time front && eqb (seen_set set h y.0.time) s) (λ y. let same = sets y.0.time in search (rules, arith, cases_lt)) h in
          let none : ◌≡◌ {A = ℕ} (cond (new x) 1 0) 0 = search (rules, arith) in
          omega (arith, is.counted s inside, old, sum_by_push (λ y. cond (new y) 1 0) h x, none);
      kept = λ test.
          let push = sum_by_push (λ (y : Event × ℕ). cond (leb front y.0.time && test y.0.time) 1 0) h x in
          let one : ◌≡◌ {A = ℕ} (cond (leb front x.0.time && test x.0.time) 1 0) (cond (test bin.index) 1 0) = search (rules, arith) in
          let more_here : cond (test bin.index) (bin.a + 1) 0 ≡ cond (test bin.index) bin.a 0 + cond (test bin.index) 1 0 = search (rules, arith) in
          omega (arith, is.kept test, sum_by_push (λ (e : Entry). cond (test e.index) e.a 0) (met_in bin.b kept) bin, sum_by_push (λ (e : Entry). cond (test e.index) e.a 0) (met_in bin'.b kept) bin', push, one, more_here, where_met_in test bin.b kept, where_met_in test bin'.b kept);
      met =
          all_push (λ e. e.b ≡ met_from set.groups (h ++ x ∷ []) e.index) (met_in bin'.b kept) bin'
          (met_behind (met_from set.groups h) (met_from set.groups (h ++ x ∷ [])) bin.b here bin.index (λ t lt. more t (omega (arith, lt))) kept above
          (all_front (λ e. e.b ≡ met_from set.groups h e.index) (met_in bin.b kept) (bin ∷ []) is.met))
          (ap (λ n. bit_or n here) (last_of (λ e. e.b ≡ met_from set.groups h e.index) (met_in bin.b kept) bin is.met) ∙ more bin.index (omega arith));
      upto = all_push (λ y. y.0.time ≤ bin.index) h x is.upto (omega (arith, at));
    }

-- what a fold that is open stands for once it stands for more
pub open_follows : (closed : Bool) (set : FoldView) (cells cells' : List ℕ) (ring ring' : Ring) (bin bin' : Entry) (h h' : History)
    → closed ≡ false → (Stands set cells ring bin h → Stands set cells' ring' bin' h')
    → Counts closed set cells ring bin (photons set h) → Counts closed set cells' ring' bin' (photons set h')
open_follows closed set cells cells' ring ring' bin bin' h h' is follows counts = search (rules, arith)
