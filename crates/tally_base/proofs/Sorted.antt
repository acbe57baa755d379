-- Markers are in no group.
use Rattle.std.proofs.Common.{◌≡◌, ℕ, ◌+◌, ◌<◌, ◌≤◌, ◌&&◌, List, length, get_or, set, arith, ◌⊎◌, nat_lt, slice_index, rules, ◌∙◌, Bool, false, cond, [], ◌∷◌}
use Rattle.std.proofs.{Common.{◌++◌, filter, append-nil, length-append, ap, sym, refl}, lemmas.{Grind.common_steps, List.{get_or-set_same, Sums.sum_by_push}}}
use Rattle.{std.{proofs.lemmas.List.Elements.filter-append, specs.List.count_by}, tally_base.specs.{Events.{is_in, is_photon}, Codes.{code_in, InNoGroup}}}
use Rattle.tally_base.{specs.{declared.event.Event.Event, Tally.{History, greatest_time}}, proofs.Floors.greatest-push}

-- a group that is found is a photon's
pub found : (groups code group : ℕ) → (256 ≤ code → groups ≡ 0) → is_in groups group ≡ (is_in groups group && nat_lt code 256)
found groups code group none = search (rules, arith)

behind : (xs : List ℕ) (n i v : ℕ) → i < n → get_or (set xs n v) i 0 ≡ get_or xs i 0
behind xs n i v lt = grind (arith, common_steps)

-- one row more, whose groups aren't known
pub none-push : (marks groups : List ℕ) (sorted n mark : ℕ) → sorted ≤ n → InNoGroup sorted marks groups → InNoGroup sorted (set marks n mark) groups
none-push marks groups sorted n mark few none = λ i lt marker. none i lt (rw (behind marks n i mark (omega (arith, few, lt))) at marker)

last_or : (i n : ℕ) → i < n + 1 → (i ≡ n) ⊎ (i < n)
last_or i n lt = grind (arith, lt)

-- the groups of one row more
pub none-put : (marks groups : List ℕ) (n more : ℕ) → n < length groups → InNoGroup n marks groups
    → (256 ≤ code_in (slice_index marks n) → more ≡ 0) → InNoGroup (n + 1) marks (set groups n more)
none-put marks groups n more inside none marker = search (rules, arith, get_or-set_same, behind)

-- The groups that come with a marker count for nothing.

pub same_length : (h : History) (e : Event) (groups : ℕ) → length (h ++ (e, 0) ∷ []) ≡ length (h ++ (e, groups) ∷ [])
same_length h e groups = omega (arith, length-append h ((e, 0) ∷ []), length-append h ((e, groups) ∷ []))

pub same_greatest : (strict : Bool) (h : History) (e : Event) (groups : ℕ)
    → greatest_time strict (h ++ (e, 0) ∷ []) ≡ greatest_time strict (h ++ (e, groups) ∷ [])
same_greatest strict h e groups = greatest-push strict h (e, 0) ∙ sym (greatest-push strict h (e, groups))

-- for a test that no marker passes, whatever its groups
module _ (test : Event × ℕ → Bool) (none : (x : Event × ℕ) → is_photon x.0 ≡ false
    → test x ≡ false) (h : History) (e : Event) (groups : ℕ) (marker : is_photon e ≡ false) where
  filter_marker : (x : Event × ℕ) → is_photon x.0 ≡ false → filter test (h ++ x ∷ []) ≡ filter test h
  filter_marker x is = filter-append test h (x ∷ []) ∙ (ap (λ xs. filter test h ++ xs) (rw (none x is) refl) ∙ append-nil (filter test h))

  pub same_filter : filter test (h ++ (e, 0) ∷ []) ≡ filter test (h ++ (e, groups) ∷ [])
  same_filter = filter_marker (e, 0) marker ∙ sym (filter_marker (e, groups) marker)

  count_marker : (x : Event × ℕ) → is_photon x.0 ≡ false → count_by test (h ++ x ∷ []) ≡ count_by test h
  count_marker x is = sum_by_push (λ x. cond (test x) 1 0) h x ∙ (rw (none x is) (omega arith))

  pub same_count : count_by test (h ++ (e, 0) ∷ []) ≡ count_by test (h ++ (e, groups) ∷ [])
  same_count = count_marker (e, 0) marker ∙ sym (count_marker (e, groups) marker)
