-- The cells of a fold add up, and the first of them is 0.
use Rattle.std.proofs.Common.{rules, ◌≡◌, ◌∙◌, ℕ, ◌+◌, ◌^◌, ◌<◌, Bool, true, false, ◌&&◌, cond, eqb, leb, List, [], ◌∷◌, ◌++◌, length, refl, sym, ap, get_or}
use Rattle.std.{proofs.{Common.{arith, append_assoc}, lemmas.{List.Folds.{list_any-append, list_any_at}, Map.Views.any-filter_same}}, specs.List.list_any}
use Rattle.{std.specs.List.{count_by, AllByRecursion}, tally_base.{proofs.Sums.{sum_none, count_none, parts}, specs.declared.event.Event.Event}}
use Rattle.{tally_base.specs.{Events.{is_photon, is_in}, Settings.FoldView, Tally.History}, lag_ring.proofs.Sums.{sum_by-agree, sum_by-filter, sum_by-same}}
use Rattle.fold_count.{specs.{FoldCounts.{is_of, is_of_any, is_seen, number_of, seen_set, in_set, in_all_sets}, Folded.photons}, proofs.Numbers.number_below}
use Rattle.fold_count.proofs.Numbers.{number_agree, any_in}

-- a photon of a group is one of at least one of them
of_any : (groups : List ℕ) (x : Event × ℕ) (k : ℕ) → k < length groups → is_of (get_or groups k 0) x ≡ true → is_of_any groups x ≡ true
of_any groups x k inside is = search (rules, arith, list_any_at)

pub first_true : (a b : Bool) → (a && b) ≡ true → a ≡ true
first_true a b is = search (rules, arith)

both : (a b c : Bool) → b ≡ c → ◌≡◌ {A = ℕ} (cond a (cond b 1 0) 0) (cond (a && c) 1 0)
both a b c is = search (rules, arith)

-- Other events than the photons of the groups don't count.
pub in_photons : (set : FoldView) (s : ℕ) (h : History) → count_by (λ x. eqb (seen_set set (photons set h) x.0.time) s) (photons set h) ≡ in_set set s h
in_photons set s h =
    let seen : (t : ℕ) → seen_set set (photons set h) t ≡ seen_set set h t = λ t.
    number_agree (λ group. list_any (is_seen set.window t group) (photons set h)) (λ group. list_any (is_seen set.window t group) h) set.groups
    (λ k inside. any-filter_same (is_seen set.window t (get_or set.groups k 0)) (is_of_any set.groups) true
    (λ x is. of_any set.groups x k inside (first_true (is_of (get_or set.groups k 0) x) (leb t x.0.time && leb x.0.time (t + set.window)) is)) h) in
    sum_by-filter (is_of_any set.groups) (λ x. cond (eqb (seen_set set (photons set h) x.0.time) s) 1 0) h
    ∙ sum_by-same (λ x. cond (is_of_any set.groups x) (cond (eqb (seen_set set (photons set h) x.0.time) s) 1 0) 0) (λ x. cond (is_of_any set.groups x && eqb (seen_set set h x.0.time) s) 1 0) h
    (λ x. both (is_of_any set.groups x) (eqb (seen_set set (photons set h) x.0.time) s) (eqb (seen_set set h x.0.time) s) (ap (λ n. eqb n s) (seen x.0.time)))

pub add_up : (set : FoldView) (h : History) → in_all_sets set h ≡ count_by (is_of_any set.groups) h
add_up set h =
    let few : (x : Event × ℕ) → seen_set set h x.0.time < 2 ^ length set.groups =
    λ x. number_below (λ group. list_any (is_seen set.window x.0.time group) h) set.groups in
    let none = count_none (λ x. is_of_any set.groups x && leb (2 ^ length set.groups) (seen_set set h x.0.time))
    (λ x. let below = few x in search (rules, arith)) h in
    omega (arith, none, parts (is_of_any set.groups) (λ x. seen_set set h x.0.time) (2 ^ length set.groups) h)

-- a test that an element of a list passes is passed by some element
members : (front h : History) → AllByRecursion (λ x. (p : Event × ℕ → Bool) → p x ≡ true → list_any p (front ++ h) ≡ true) h
members front [] = tt
members front (x ∷ h) = (
  (λ p is. search (rules, arith, list_any-append)),
  rw append_assoc at (members (front ++ x ∷ []) h),
)

any_follows : (p q : ℕ → Bool) → ((g : ℕ) → q g ≡ true → p g ≡ true) → (groups : List ℕ) → list_any q groups ≡ true → list_any p groups ≡ true
any_follows p q follows [] is = is
any_follows p q follows (g ∷ groups) is = search (rules, arith, follows, any_follows p q follows groups)

some_digit : (p q : ℕ → Bool) → ((g : ℕ) → q g ≡ true → p g ≡ true) → (groups : List ℕ) → list_any q groups ≡ true → 0 < number_of p groups
some_digit p q follows groups is = let some = sym (any_in p groups) ∙ any_follows p q follows groups is in search (rules, arith)

own_window : (window : ℕ) (x : Event × ℕ) (g : ℕ) → is_photon x.0 ≡ true → is_in x.1 g ≡ true → is_seen window x.0.time g x ≡ true
own_window window x g photon is = search (rules, arith)

not_zero : (set : FoldView) (h : History) (x : Event × ℕ) → ((p : Event × ℕ → Bool) → p x ≡ true → list_any p h ≡ true)
    → (b : Bool) → is_of_any set.groups x ≡ b → (b && eqb (seen_set set h x.0.time) 0) ≡ false
not_zero set h x member false is = refl
not_zero set h x member true is = search (rules, arith, some_digit, own_window)

pub none_empty : (set : FoldView) (h : History) → in_set set 0 h ≡ 0
none_empty set h =
    sum_by-agree (λ x. (p : Event × ℕ → Bool) → p x ≡ true → list_any p h ≡ true) (λ x. cond (is_of_any set.groups x && eqb (seen_set set h x.0.time) 0) 1 0) (λ x. 0) h (members [] h) (λ x member. ap (λ b. cond b 1 0) (not_zero set h x member (is_of_any set.groups x) refl))
    ∙ sum_none h
