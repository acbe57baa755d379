-- What a level shows.
use Rattle.std.proofs.Common.{◌≡◌, ℕ, ◌+◌, ◌-◌, ◌<◌, ◌≤◌, Bool, true, false, ◌&&◌, ◌||◌, eqb, cond, List, length, get_or, refl, sym, ◌∙◌, append-nil, arith}
use Rattle.std.{proofs.Common.{None, Some, rules}, specs.{List.{count_by, slice_get}, declared.option.Option.Option, Option.option_map}}
use Rattle.tally_base.specs.{declared.settings.CorrelationSet.CorrelationSet, Settings.{CorrelationView, correlation_view}, Tally.History}
use Rattle.{lag_ring.{specs.{Cells.Cells, Ring.Ring}, proofs.Sums.{sum_by-times, sum_by-same, sum_by-filter}}, tau_cascade.specs.declared.level.Level.Level}
use Rattle.tau_cascade.specs.{Correlation.{Given, bin, in_first, in_second, is_pair, correlation, skipped_lags, photons_of}, Levels.{CellsAre, Chain}}
use Rattle.tau_cascade.proofs.Work.{level_at}

-- other events are in no pair
pub correlation-photons : (set : CorrelationView) (level k : ℕ) (h : History) → correlation set level k (photons_of set h) ≡ correlation set level k h
correlation-photons set level k h =
    let mine : Given → Bool = λ x. in_first set x || in_second set x in
    let pairs : Given → ℕ = λ x. count_by (is_pair set level k x) h in
    let inner : (x : Given) → count_by (is_pair set level k x) (photons_of set h) ≡ pairs x = λ x. search (rules, arith, sum_by-filter, sum_by-same) in
    let outer : (x : Given) → cond (mine x) (pairs x) 0 ≡ pairs x = λ x.
    elim (in_first set x) as (λ a. cond (a || in_second set x) (count_by (λ y. (a && in_second set y) && eqb (bin level y) (bin level x + k)) h) 0 ≡ count_by
    (λ y. (a && in_second set y) && eqb (bin level y) (bin level x + k)) h)
    [ true ↦ refl | false ↦ elim (in_second set x) as (λ b. cond b (count_by (λ y. (false && in_second set y) && eqb (bin level y) (bin level x + k)) h) 0 ≡ count_by (λ y. (false && in_second set y) && eqb (bin level y) (bin level x + k)) h) [ true ↦ refl | false ↦ sym (sum_by-times (λ y. 0) 0 h ∙ grind arith) ] ] in
    sum_by-same (λ x. count_by (is_pair set level k x) (photons_of set h)) pairs (photons_of set h) inner
    ∙ sum_by-filter mine pairs h
    ∙ sum_by-same (λ x. cond (mine x) (pairs x) 0) pairs h outer

-- the level that is read, by what is read of it
pub read_of : {Y : Type 0} (f : Level → Y) (y : Y) (o : Option Level) → option_map f o ≡ Some y → (l : Level) × (o ≡ Some l) × (f l ≡ y)
read_of f y None got = cc
read_of f y (Some l) got = (l, refl, cc)

pub shown_cells : (closed : Bool) → closed ≡ true → (set : CorrelationView) (ls : List Level) (came : History) → Chain closed set 0 ls came
    → (i : ℕ) (cs : Cells) → option_map (λ (l : Level). l.cells) (slice_get ls i) ≡ Some cs → CellsAre set i cs came
shown_cells closed shut set ls came chain i cs read =
    let found = read_of (λ (l : Level). l.cells) cs (slice_get ls i) read in
    let at = level_at closed set ls came chain i found.0 found.1 in
    rw (← found.2, at.split, (at.end shut).0, append-nil) at.has.cells

pub shown_ring : (closed : Bool) (set : CorrelationSet) (ls : List Level) (came : History) → Chain closed (correlation_view set) 0 ls came → (i : ℕ) (r : Ring)
    → option_map (λ (l : Level). l.ring) (slice_get ls i) ≡ Some r → length r.entries ≤ set.lags
shown_ring closed set ls came chain i r read =
    let found = read_of (λ (l : Level). l.ring) r (slice_get ls i) read in
    let at = level_at closed (correlation_view set) ls came chain i found.0 found.1 in
    rw (← found.2) (omega (arith, at.has.ring.reach, at.has.ring.keeps.within))

-- a cell at a lag of the level
pub cell_is : (set : CorrelationView) (level lag skipped : ℕ) (cs : Cells) (h : History) → CellsAre set level cs (photons_of set h)
    → skipped ≡ skipped_lags set level → skipped_lags set level < lag → lag ≤ set.lags → get_or cs.cells (lag - skipped - 1) 0 ≡ correlation set level lag h
cell_is set level lag skipped cs h is same above within = search (rules, arith, correlation-photons)
