-- A level's additions are at most its lags times its occupied bins, and those at a lag at most its occupied bins.
use Rattle.tally_base.specs.{declared.settings.CorrelationSet.CorrelationSet, Settings.{CorrelationView, correlation_view}, Tally.History}
use Rattle.tau_cascade.specs.{declared.{level.Level.Level, cascade.Cascade.Cascade}, Cascade.{Holds, set_of, spent_by, added_below}, StandsFor.StandsFor}
use Rattle.tau_cascade.specs.{Correlation.{bin, lag_count, correlation, photons_of}, Work.{occupied, IsWithinLevelWork, IsPaired, lags_at, work_from, work}}
use Rattle.{tau_cascade.specs.{Work.{appears, distinct}, Levels.{Chain, ClosedAre, spent}}, std.proofs.Common.{rules, ◌≡◌, ℕ, zero, suc, ◌+◌, ◌*◌, ◌%◌, ◌<◌}}
use Rattle.std.proofs.Common.{◌≤◌, take, slice_get, Bool, true, false, List, [], ◌∷◌, ◌++◌, length, map, sym, ap, ◌∙◌, refl, append_assoc, append-nil, zero-add}
use Rattle.std.proofs.{Common.{add-zero, Some, None, arith, cond, ◌||◌, eqb}, Math.Nat.mul-le-mul_left, lemmas.{Grind.common_steps, List.map-append}}
use Rattle.std.{proofs.lemmas.List.{take_all, length-map, Sums.{sum_by-cons, sum_by-le, count_by-le-length}}, specs.Option.{option_map, option_map_or}}
use Rattle.{std.specs.List.AllByRecursion, lag_ring.proofs.Lists.all_map}

-- How many different numbers a list has.

pub appears-push : (n m : ℕ) (ns : List ℕ) → appears n (ns ++ m ∷ []) ≡ (appears n ns || eqb m n)
appears-push n m [] = elim (eqb m n) as (λ b. (b || false) ≡ b) [ true ↦ refl | false ↦ refl ]
appears-push n m (x ∷ ns) = search (rules, arith, appears-push n m ns)

pub distinct-push : (ns : List ℕ) (m : ℕ) → distinct (ns ++ m ∷ []) ≡ distinct ns + cond (appears m ns) 0 1
distinct-push [] m = refl
distinct-push (x ∷ ns) m = search (rules, arith, appears-push, distinct-push ns m)

-- more numbers are no fewer different ones
pub distinct-le-append : (ns ms : List ℕ) → distinct ns ≤ distinct (ns ++ ms)
distinct-le-append ns [] = grind (arith, common_steps)
distinct-le-append ns (m ∷ ms) = search (rules, arith, distinct-push, append_assoc, distinct-le-append (ns ++ m ∷ []) ms)

appears-no : (n : ℕ) (ns : List ℕ) → AllByRecursion (λ m. m < n) ns → appears n ns ≡ false
appears-no n [] all = refl
appears-no n (m ∷ ns) all = rw (appears-no n ns all.1) (grind arith)

distinct-again : (ns ms : List ℕ) (n : ℕ) → appears n ns ≡ true → AllByRecursion (λ m. m ≡ n) ms → distinct (ns ++ ms) ≡ distinct ns
distinct-again ns [] n there all = grind (arith, common_steps)
distinct-again ns (m ∷ ms) n there all =
    let push : distinct (ns ++ m ∷ []) ≡ distinct ns = rw (distinct-push ns m, all.0, there) (omega arith) in
    search (rules, arith, append_assoc, appears-push, distinct-again (ns ++ m ∷ []) ms n (rw (appears-push n m ns, there) refl) all.1)

-- one different number more, if the new ones are one that is above all
pub distinct-late : (ns ms : List ℕ) (n : ℕ) → AllByRecursion (λ m. m < n) ns
    → 0 < length ms → AllByRecursion (λ m. m ≡ n) ms → distinct (ns ++ ms) ≡ distinct ns + 1
distinct-late ns [] n below some all = absurd (omega arith)
distinct-late ns (m ∷ ms) n below some all =
    let no : appears m ns ≡ false = rw all.0 (appears-no n ns below) in
    let there : appears n (ns ++ m ∷ []) ≡ true = rw (appears-push n m ns, all.0) (grind (arith, common_steps)) in
    sym (ap distinct (append_assoc ns (m ∷ []) ms)) ∙ distinct-again (ns ++ m ∷ []) ms n there all.1 ∙ (rw (distinct-push ns m, no) refl)

-- A level's additions are at most its lags times its occupied bins, and those at a lag at most its occupied bins.

occupied-le : (level : ℕ) (all front back : History) → all ≡ front ++ back → occupied level front ≤ occupied level all
occupied-le level all front back same = rw (same, map-append (bin level) front back) (distinct-le-append (map (bin level) front) (map (bin level) back))

even_lags : (set : CorrelationView) (level : ℕ) → set.lags % 2 ≡ 0 → lag_count set level ≡ lags_at set level
even_lags set level even = grind (arith, common_steps)

-- what a level has of the photons that came to one below it
pub record Reached (ended : Bool) (set : CorrelationView) (level : ℕ) (l : Level) (came : History) : Type 0 where
  pub closed : History
  pub rest : History
  pub split : came ≡ closed ++ rest
  pub has : ClosedAre set level l.ring l.cells l.paired closed
  pub end : ended ≡ true → (rest ≡ []) × (l.open ≡ None)

reach : (ended : Bool) (set : CorrelationView) (level : ℕ) (ls : List Level) (came : History) → Chain ended set level ls came → (i : ℕ) (l : Level) → slice_get ls i ≡ Some l → Reached ended set (level + i) l came
reach ended set level [] came chain i l read = cc
reach ended set level (x ∷ ls) came chain zero l read = search (rules, arith, add-zero)
reach ended set level (x ∷ ls) came chain (suc i) l read = search (rules, arith, append_assoc, reach ended set (suc level) ls chain.0 chain.4 i l read)

pub level_at : (ended : Bool) (set : CorrelationView) (ls : List Level) (came : History) → Chain ended set 0 ls came → (i : ℕ) (l : Level) → slice_get ls i ≡ Some l → Reached ended set i l came
level_at ended set ls came chain i l read = (rw zero-add at (reach ended set 0 ls came chain i l read))

pub level_within : (ended : Bool) (set : CorrelationView) (ls : List Level) (xs : History) → Chain ended set 0 ls xs → (i : ℕ) (l : Level)
    → slice_get ls i ≡ Some l → IsWithinLevelWork set i l.cells xs × IsPaired ended l.paired (occupied i xs)
level_within ended set ls xs chain i l read =
    let at = level_at ended set ls xs chain i l read in
    let more = occupied-le i xs at.closed at.rest at.split in
    let all : ended ≡ true → occupied i xs ≡ occupied i at.closed = λ shut. ap (occupied i) (at.split ∙ ap (λ ys. at.closed ++ ys) (at.end shut).0 ∙ append-nil at.closed) in (
      record { all = omega (arith, at.has.cells.counts.work, mul-le-mul_left (lag_count set i) more); each = λ p. omega (arith, at.has.cells.each p, more) },
      record { few = omega (arith, at.has.paired, more); windows = omega (arith, at.has.paired, more); all = λ shut. omega (arith, at.has.paired, all shut) },
    )

spent_all : (ended : Bool) (set : CorrelationView) → set.lags % 2 ≡ 0 → (level : ℕ) (ls : List Level) (all came later : History) → all ≡ came ++ later → Chain ended set level ls came → spent ls ≤ work_from set level (length ls) all
spent_all ended set even level [] all came later split chain = omega arith
spent_all ended set even level (l ∷ ls) all came later split chain =
    let parts : all ≡ chain.0 ++ (chain.1 ++ later) = split ∙ ap (λ xs. xs ++ later) chain.2 ∙ append_assoc chain.0 chain.1 later in
    let own : l.cells.added ≤ lags_at set level * occupied level all =
    rw (← even_lags set level even) (omega (arith, chain.3.has.cells.counts.work, mul-le-mul_left (lag_count set level) (occupied-le level all chain.0 (chain.1 ++ later) parts))) in
    rw (sum_by-cons (λ (l : Level). l.cells.added) l ls) (omega (arith, own, spent_all ended set even (suc level) ls all chain.0 (chain.1 ++ later) parts chain.4))

-- whatever events a correlation stands for, its additions are within their work
pub spent_within : (closed : Bool) (set : CorrelationSet) (ls : List Level) (count time : ℕ) (h : History)
    → length ls ≡ set.levels → StandsFor closed set ls count time h → spent ls ≤ work (correlation_view set) h
spent_within closed set ls count time h sized is =
    let xs = photons_of (correlation_view set) h in
    rw (← sized) (spent_all closed (correlation_view set) set.even_lags 0 ls xs xs [] (sym (append-nil xs)) is.through)

-- one level more
level_more : (ls : List Level) (n : ℕ) → n < length ls
    → spent (take (suc n) ls) ≡ spent (take n ls) + option_map_or (λ c. c.added) (option_map (λ (l : Level). l.cells) (slice_get ls n)) 0
level_more [] n inside = absurd (omega arith)
level_more (l ∷ ls) zero inside = omega (arith, sum_by-cons (λ (x : Level). x.cells.added) l [])
level_more (l ∷ ls) (suc n) inside = search (rules, arith, sum_by-cons, level_more ls n (omega arith))

lent : (t : Cascade) (n : ℕ) → n ≤ length t.levels.items → spent (take n t.levels.items) ≡ added_below t n
lent t zero inside = refl
lent t (suc n) inside = omega (arith, level_more t.levels.items n (omega arith), lent t n (omega arith))

-- what was spent is what made the cells that the levels lend
pub all_lent : (t : Cascade) (n : ℕ) → n ≡ length t.levels.items → spent_by t ≡ added_below t n
all_lent t n all = cc (take_all n t.levels.items (omega arith), lent t n (omega arith))

pub work_within : (t : Cascade) (h : History) → Holds t h → spent_by t ≤ work (correlation_view (set_of t)) h
work_within t h is = search (rules, arith, spent_within)

-- What the pairs of a bin with the ring do to the cells of a level.

-- there are no more pairs than places squared
pub correlation-le : (set : CorrelationView) (level k : ℕ) (h : History) → correlation set level k h ≤ length h * length h
correlation-le set level k h = search (rules, arith, sum_by-le, count_by-le-length)

module _ (set : CorrelationView) (level : ℕ) where
  -- one bin more is occupied
  pub occupied-more : (closed xs : History) (n : ℕ) → AllByRecursion (λ y. bin level y < n) closed → 0 < length xs
      → AllByRecursion (λ y. bin level y ≡ n) xs → occupied level (closed ++ xs) ≡ occupied level closed + 1
  occupied-more closed xs n before some here =
      ap distinct (map-append (bin level) closed xs)
      ∙ distinct-late (map (bin level) closed) (map (bin level) xs) n (all_map (λ m. m < n) (bin level) closed before)
      (rw (length-map xs) some) (all_map (λ m. m ≡ n) (bin level) xs here)
