-- What holds of every correlation.
use Rattle.std.proofs.{Common.{◌≡◌, ℕ, suc, ◌+◌, ◌-◌, ◌*◌, ◌/◌, ◌%◌, ◌≤◌, Bool, true, false, cond, List, [], ◌∷◌, ◌++◌, ◌&&◌, ◌||◌, ◌∙◌, ap, subst, length, arith, rules}, Math.Logic.∥∥₁_elim}
use Rattle.std.{proofs.{Props.props, lemmas.List.Sums.sum_by-cons}, specs.{Prelude.is_some, List.sum_by}}
use Rattle.tally_base.specs.{declared.{event.Event.Event, settings.CorrelationSet.CorrelationSet}, Events.{is_photon, is_in}, Settings.{CorrelationView, correlation_view, entries}, Tally.History}
use Rattle.{tally_base.proofs.Sorted.{same_length, same_greatest, same_filter}, tau_cascade.specs.{declared.{cascade.Cascade.Cascade, level.Level.Level}, Cascade.{Holds, settings}}}
use Rattle.tau_cascade.specs.{Correlation.{in_first, in_second, lag_count, photons_of}, StandsFor.entries_of, Levels.{Chain, RingIs, CellsAre}}

level_bound : (set : CorrelationView) (level : ℕ) (l : Level) (came : History) → RingIs set level l.ring came → CellsAre set level l.cells came → entries_of l ≤ set.lags + lag_count set level + 1
level_bound set level l came ring cells = elim (is_some l.open) as (λ b. length l.ring.entries + length l.cells.cells + cond b 1 0 ≤ set.lags + lag_count set level + 1) [ true ↦ omega (arith, ring.reach, ring.keeps.within, cells.counts.count) | false ↦ omega (arith, ring.reach, ring.keeps.within, cells.counts.count) ]

first_bound : (set : CorrelationView) (l : Level) (came : History) → RingIs set 0 l.ring came → CellsAre set 0 l.cells came → entries_of l ≤ set.lags + set.lags + 1
first_bound set l came ring cells = let fits = level_bound set 0 l came ring cells in omega (arith, fits)

above_bound : (set : CorrelationView) (level : ℕ) (l : Level) (came : History) → RingIs set (suc level) l.ring came → CellsAre set (suc level) l.cells came → entries_of l ≤ set.lags + (set.lags - set.lags / 2) + 1
above_bound set level l came ring cells = let fits = level_bound set (suc level) l came ring cells in grind arith

more_bound : (a b c n : ℕ) → a ≤ c → b ≤ n * c → a + b ≤ suc n * c
more_bound a b c n first rest = grind arith

upper_bound : (ended : Bool) (set : CorrelationView) (level : ℕ) (ls : List Level) (came : History) → Chain ended set (suc level) ls came → sum_by entries_of ls ≤ length ls * (set.lags + (set.lags - set.lags / 2) + 1)
upper_bound ended set level [] came is = omega arith
upper_bound ended set level (l ∷ ls) came is = rw (sum_by-cons entries_of l ls) (more_bound _ _ _ (length ls) (above_bound set level l is.0 is.3.has.ring is.3.has.cells) (upper_bound ended set (suc level) ls is.0 is.4))

bound_sum : (a b m n levels : ℕ) → m % 2 ≡ 0 → suc n ≡ levels → a ≤ m + m + 1 → b ≤ n * (m + (m - m / 2) + 1) → a + b ≤ levels * (m + 1) + m + (levels - 1) * (m / 2)
bound_sum a b m n levels even count first rest =
    let half : m - m / 2 ≡ m / 2 = omega arith in
    let more : b ≤ n * (m + m / 2 + 1) = (rw half at rest) in
    rw (← count) (grind arith)

stands_bound : (closed : Bool) (set : CorrelationSet) (ls : List Level) (came : History) → length ls ≡ set.levels → Chain closed (correlation_view set) 0 ls came → sum_by entries_of ls ≤ set.levels * (set.lags + 1) + set.lags + (set.levels - 1) * (set.lags / 2)
stands_bound closed set [] came sized is = absurd (omega (arith, set.some_levels))
stands_bound closed set (l ∷ ls) came sized is = rw (sum_by-cons entries_of l ls) (bound_sum _ _ set.lags (length ls) set.levels set.even_lags sized (first_bound (correlation_view set) l is.0 is.3.has.ring is.3.has.cells) (upper_bound closed (correlation_view set) 0 ls is.0 is.4))

pub within_bound : (t : Cascade) → sum_by entries_of t.levels.items ≤ entries (settings t)
within_bound t =
    let sized : length t.levels.items ≡ t.set.levels = search rules in
    ∥∥₁_elim t.stands (hlevel props) (λ w. stands_bound t.closed t.set t.levels.items (photons_of (correlation_view t.set) w.0) sized w.1.through)

pub marker_groups : (t : Cascade) (h : History) (e : Event) (groups : ℕ) → is_photon e ≡ false → Holds t (h ++ (e, 0) ∷ []) → Holds t (h ++ (e, groups) ∷ [])
marker_groups t h e groups marker is =
    let set = correlation_view t.set in
    let same = same_filter (λ x. in_first set x || in_second set x) (λ x marker. ap (λ b. (b && is_in x.1 set.first) || (b && is_in x.1 set.second)) marker) h e groups marker in
    record {
      taken = is.taken ∙ same_length h e groups;
      floor = is.floor ∙ same_greatest false h e groups;
      through = subst (λ xs. Chain t.closed set 0 t.levels.items xs) same is.through;
    }
