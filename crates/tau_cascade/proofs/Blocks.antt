-- What a block of events does to the photons of the two groups.
use Rattle.std.proofs.Common.{◌≡◌, ℕ, zero, suc, ◌+◌, ◌<◌, ◌≤◌, Bool, true, false, ◌&&◌, ◌||◌, cond, ltb, List, [], ◌∷◌, ◌++◌, length, map, take, refl, sym, ap}
use Rattle.std.proofs.{Common.{◌∙◌, append-nil, arith, length-append, zero-add, slice_set, nat_lt, rules, max, fold}, lemmas.Bool.false≢true}
use Rattle.std.proofs.lemmas.{Grind.common_steps, List.{map-append, take_more_set, Elements.filter-append, Sums.{length-filter, count_by-le-length}}}
use Rattle.{std.{proofs.Math.Nat.div-one, specs.List.AllByRecursion}, tally_base.specs.declared.{settings.CorrelationSet.CorrelationSet, block.Block.Block}}
use Rattle.tally_base.specs.{Events.{is_photon, is_in}, Settings.{CorrelationView, correlation_view}, Tally.{History, greatest_time, floor_after, InOrder}}
use Rattle.tally_base.specs.{Tally.moves_floor, Limits.record_limit, Columns.{rows, event_at, code_at, groups_at, gathered, events_in}}
use Rattle.{tally_base.proofs.{Floors.{moves_row, order-front, order-last, greatest-rows}, BlockRows.length-rows}, lag_ring.specs.declared.ring.Entry.Entry}
use Rattle.{lag_ring.proofs.{Lists.{all_both, all_filter, all_passed}, Rising.all_weaker}, tau_cascade.specs.{declared.level.Level.Level, Correlation.Given}}
use Rattle.tau_cascade.specs.{Correlation.{bin, in_first, in_second, photons_of}, StandsFor.StandsFor, Levels.Chain, Bins.{raised, bin_of, photon_bins, Come}}
use Rattle.tau_cascade.{specs.Bins.{CanCome, CanGiveBlock}, proofs.Follows.{come_push, raised-none}}
use mir.Val.{bool_byte}

-- What an event does to the photons of the two groups.

abbrev later : ℕ → Given → ℕ
later t x = cond (moves_floor false x.0) (max t x.0.time) t

from_start : (t : ℕ) (h : History) → t ≤ fold later t h
from_start t [] = omega arith
from_start t (x ∷ h) = search (rules, arith, from_start (later t x) h)

-- no photon is after the greatest time
in_time : (t : ℕ) (h : History) → AllByRecursion (λ x. is_photon x.0 ≡ true → x.0.time ≤ fold later t h) h
in_time t [] = tt
in_time t (x ∷ h) = search (rules, arith, from_start, in_time (later t x) h)

pub mine-photon : (p a b : Bool) → ((p && a) || (p && b)) ≡ true → p ≡ true
mine-photon p a b is = search (rules, arith)

-- the photons of either group are no later than an event that may be given
none_after : (set : CorrelationView) (h : History) (time : ℕ) → greatest_time false h ≤ time → AllByRecursion (λ x. x.0.time ≤ time) (photons_of set h)
none_after set h time after =
    let mine : Given → Bool = λ x. in_first set x || in_second set x in
    all_both (λ x. mine x ≡ true) (λ x. is_photon x.0 ≡ true → x.0.time ≤ greatest_time false h) (λ x. x.0.time ≤ time)
    (λ x is before. let in_h : x.0.time ≤ greatest_time false h =
    before (mine-photon (is_photon x.0) (is_in x.1 set.first) (is_in x.1 set.second) is) in omega arith)
    (photons_of set h) (all_passed mine h) (all_filter (λ x. is_photon x.0 ≡ true → x.0.time ≤ greatest_time false h) mine h (in_time 0 h))

pub few_photons : (set : CorrelationView) (h : History) → length (photons_of set h) ≤ length h
few_photons set h = omega (arith, length-filter (λ x. in_first set x || in_second set x) h, count_by-le-length (λ x. in_first set x || in_second set x) h)

-- the same of the bins of the first level
pub none_before : (set : CorrelationView) (h : History) (time : ℕ) → greatest_time false h ≤ time → AllByRecursion (λ x. bin 0 x ≤ time) (photons_of set h)
none_before set h time after = search (rules, arith, all_weaker, div-one, none_after)

-- it may be closed
pub may_end : (closed : Bool) → closed ≡ false → (set : CorrelationSet) (ls : List Level) (count time : ℕ) (h : History) → StandsFor closed set ls count time h
    → count ≤ record_limit → CanCome (correlation_view set) 0 ls [] (photons_of (correlation_view set) h) []
may_end closed still set ls count time h is few = search (rules, arith, false≢true, few_photons)

-- the weight of an event of a block
pub weight_row : {N : ℕ} (b : Block N) (i group : ℕ)
    → ◌≡◌ {A = ℕ} (cond (is_in (groups_at b i) group && nat_lt (code_at b i) 256) 1 0) (cond (is_photon (event_at b i) && is_in (groups_at b i) group) 1 0)
weight_row b i group =
    search (rules, arith) ∙ ap (λ p. cond (p && is_in (groups_at b i) group) 1 0) (sym (moves_row false b i))

module _ (set : CorrelationView) where
  abbrev pub mine : Given → Bool
  mine x = in_first set x || in_second set x

  photon_bins-push : (es : History) (x : Given) → photon_bins set (es ++ x ∷ []) ≡ photon_bins set es ++ cond (mine x) (bin_of set x ∷ []) []
  photon_bins-push es x = search (rules, arith, filter-append, mine, map-append)

  -- one event more is gathered
  pub gather_step : (bins : List Entry) (count a b : ℕ) (es : History) (x : Given) → count < length bins
      → take count bins ≡ photon_bins set es → a ≡ cond (in_first set x) 1 0 → b ≡ cond (in_second set x) 1 0
      → take (count + cond (mine x) 1 0) (slice_set bins count (record { index = x.0.time; a = a; b = b })) ≡ photon_bins set (es ++ x ∷ [])
  gather_step bins count a b es x inside so_far is_a is_b = grind (arith, common_steps, photon_bins-push, mine, take_more_set, append-nil)

  -- events in order come one after the other
  pub come_rows : (h : History) (f : ℕ → Given) (n : ℕ) → InOrder false (greatest_time false h) (rows (λ i. (f i).0) n)
      → Come set 0 (photons_of set h) (photon_bins set (rows f n)) (photons_of set (rows f n))
  come_rows h f zero order = refl
  come_rows h f (suc n) order =
      let x : Given = f n in
      let es : History = rows f n in
      let floor : ℕ = greatest_time false h in
      let events = rows (λ i. (f i).0) n in
      let front = order-front false floor events x.0 order in
      let next = order-last false floor events x.0 order in
      let last = greatest-rows false h f n front in
      let before = come_rows h f n front in
      rw (photon_bins-push es x, filter-append mine es (x ∷ []))
      ((elim (mine x) as (λ m. mine x ≡ m → Come set 0 (photons_of set h) (photon_bins set es ++ cond m (bin_of set x ∷ []) []) (photons_of set es ++ cond m (x ∷ []) [])) [
        | true ↦ λ is.
            let photon : is_photon x.0 ≡ true = mine-photon (is_photon x.0) (is_in x.1 set.first) (is_in x.1 set.second) is in
            let late : greatest_time false (h ++ es) ≤ x.0.time = (let upto = next.1 photon in rw last upto) in
            let all : AllByRecursion (λ y. bin 0 y ≤ x.0.time) (photons_of set h ++ photons_of set es) =
            rw (← filter-append mine h es) (none_before set (h ++ es) x.0.time late) in
            come_push set 0 (photon_bins set es) (bin_of set x) (photons_of set h) (photons_of set es) (x ∷ []) before (search (rules, arith, div-one, zero-add)) all
        | false ↦ λ other. rw (append-nil (photon_bins set es), append-nil (photons_of set es)) before
      ]) refl)

-- the photons of a block may come to the levels
pub block_comes : (set : CorrelationView) (ls : List Level) (b : Block 1024) (h : History) → CanGiveBlock set ls b h
    → CanCome set 0 ls (map (raised 0) (photon_bins set (events_in b))) (photons_of set h) (photons_of set (events_in b))
block_comes set ls b h can = search (rules, arith, few_photons, raised-none, come_rows)

-- what a correlation that isn't closed may be given
pub may_give_block : (closed : Bool) → closed ≡ false → (set : CorrelationSet) (ls : List Level) (count time : ℕ) (h : History) (b : Block 1024) → StandsFor closed set ls count time h → count + length (gathered b) ≤ record_limit → InOrder false time (gathered b) → CanGiveBlock (correlation_view set) ls b h
may_give_block closed still set ls count time h b is few order = search (rules, arith, false≢true, length-rows)

-- what it stands for then
pub block_counts : (closed : Bool) → closed ≡ false → (set : CorrelationSet) (ls ls' : List Level) (count time : ℕ) (h : History) (b : Block 1024)
    → StandsFor closed set ls count time h → InOrder false time (gathered b)
    → Chain false (correlation_view set) 0 ls' (photons_of (correlation_view set) (h ++ events_in b))
    → StandsFor closed set ls' (count + b.len) (floor_after false time (gathered b)) (h ++ events_in b)
block_counts closed still set ls ls' count time h b is order through = search (rules, arith, false≢true, length-append, length-rows, greatest-rows)

-- a photon of either group has some weight
pub some_weight : (a b : ℕ) (x y : Bool) → a ≡ cond x 1 0 → b ≡ cond y 1 0 → (n : ℕ) → n ≡ bool_byte (ltb 0 (a + b)) → n ≡ cond (x || y) 1 0
some_weight a b x y is_a is_b n is = search (rules, arith)
