-- The events of a block for a table of coincidences.
use Rattle.std.proofs.Common.{◌≡◌, ◌∙◌, ℕ, ◌+◌, ◌<◌, ◌≤◌, Bool, true, false, ◌&&◌, ◌||◌, List, [], ◌∷◌, ◌++◌, length, refl, sym, ap, arith, length-append}
use Rattle.std.proofs.{Common.{append-nil, append_assoc, nat_lt, rules, max, cond, fold, zero-add}, lemmas.{Grind.common_steps, Bool.false≢true}}
use Rattle.std.{proofs.lemmas.List.{Elements.filter-append, Sums.{length-filter, count_by-le-length}}, specs.List.AllByRecursion}
use Rattle.tally_base.specs.{declared.{event.Event.Event, block.Block.Block}, Events.{is_photon, is_in}, Settings.CoincidenceView, Tally.History}
use Rattle.tally_base.specs.{Tally.{greatest_time, floor_after, InOrder, moves_floor}, Limits.record_limit, Columns.{rows, item, event_at, code_at, groups_at}}
use Rattle.tally_base.{specs.Columns.{time_at, gathered, events_in}, proofs.{Floors.{moves_row, order-parts, order-at, greatest-rows}, BlockRows.length-rows}}
use Rattle.{tally_base.proofs.BlockRows.{more_rows, rows-split}, coincidence.specs.{Lone.bin_at, Picked.has_either, declared.pairing.Pairing.Pairing}}
use Rattle.coincidence.specs.{Pairs.{photons_of_groups, in_first, in_second}, Pairing.{CanPut, Came, BinIs, CanEnd, PairingDone}, StandsFor.StandsFor}
use Rattle.{coincidence.specs.StandsFor.CanTake, lag_ring.proofs.Rising.all_weaker}

-- What an event does to the photons of the two groups.

abbrev pub mine : CoincidenceView → Event × ℕ → Bool
mine set x = in_first set x || in_second set x

abbrev later : ℕ → Event × ℕ → ℕ
later t x = cond (moves_floor false x.0) (max t x.0.time) t

from_start : (t : ℕ) (h : History) → t ≤ fold later t h
from_start t [] = omega arith
from_start t (x ∷ h) = search (rules, arith, from_start (later t x) h)

later_than : (t : ℕ) (x : Event × ℕ) (n : ℕ) (a b : Bool) → later t x ≤ n → ((is_photon x.0 && a) || (is_photon x.0 && b)) ≡ true → x.0.time ≤ n
later_than t x n a b upto is = grind (arith, common_steps, is)

one_kept : {X : Type 0} (P : X → Type 0) (x : X) (xs : List X) (b : Bool) → (b ≡ true → P x) → AllByRecursion P xs → AllByRecursion P (cond b (x ∷ xs) xs)
one_kept P x xs b here rest = search (rules, arith)

-- no photon comes after the greatest time
in_time : (set : CoincidenceView) (t : ℕ) (h : History) → AllByRecursion (λ x. x.0.time ≤ fold later t h) (photons_of_groups set h)
in_time set t [] = tt
in_time set t (x ∷ h) = one_kept _ x _ (mine set x) (later_than t x _ _ _ (from_start (later t x) h)) (in_time set (later t x) h)

pub none_after : (set : CoincidenceView) (h : History) (time : ℕ) → greatest_time false h ≤ time → AllByRecursion (λ x. x.0.time ≤ time) (photons_of_groups set h)
none_after set h time after = all_weaker (λ x. x.0.time ≤ greatest_time false h) (λ x. x.0.time ≤ time) (λ x upto. omega arith) (photons_of_groups set h) (in_time set 0 h)

pub few_photons : (set : CoincidenceView) (h : History) → length (photons_of_groups set h) ≤ length h
few_photons set h = omega (arith, length-filter (mine set) h, count_by-le-length (mine set) h)

pub may_end : (closed : Bool) → closed ≡ false → (set : CoincidenceView) (p : Pairing) (count time : ℕ) (h : History)
    → StandsFor closed set p count time h → count ≤ record_limit → CanEnd set p (photons_of_groups set h)
may_end closed open' set p count time h is few = search (rules, arith, false≢true, few_photons)

pub end_counts : (closed : Bool) (set : CoincidenceView) (p p' : Pairing) (count time : ℕ) (h : History)
    → StandsFor closed set p count time h → PairingDone set p' (photons_of_groups set h) → StandsFor true set p' count time h
end_counts closed set p p' count time h is done = record { taken = is.taken; floor = is.floor; photons = done }

-- The events of a block for a table of coincidences.

turned : (a b c : Bool) → ((c && a) || (c && b)) ≡ ((a && c) || (b && c))
turned a b c = search (rules, arith)

-- a row of a block, and the photons of the two groups
module _ (set : CoincidenceView) {N : ℕ} (b : Block N) (h : History) (at : ℕ) where
  one_more : h ++ rows (item b) (at + 1) ≡ (h ++ rows (item b) at) ++ item b at ∷ []
  one_more = ap (λ xs. h ++ xs) (more_rows (item b) at) ∙ sym (append_assoc h (rows (item b) at) (item b at ∷ []))

  mine_row : mine set (item b at) ≡ has_either set b at
  mine_row = rw (moves_row false b at) (turned (is_in (groups_at b at) set.first) (is_in (groups_at b at) set.second) (nat_lt (code_at b at) 256))

  -- a row without one brings none
  pub photons-same : has_either set b at ≡ false → photons_of_groups set (h ++ rows (item b) (at + 1)) ≡ photons_of_groups set (h ++ rows (item b) at)
  photons-same neither = rw (one_more, filter-append (mine set) (h ++ rows (item b) at) (item b at ∷ []), mine_row, neither) (append-nil _)

  -- another brings its own
  module _ (either : has_either set b at ≡ true) where
    seen : nat_lt (code_at b at) 256 ≡ true
    seen = search (rules, arith)

    pub photons-more : photons_of_groups set (h ++ rows (item b) (at + 1)) ≡ photons_of_groups set (h ++ rows (item b) at) ++ item b at ∷ []
    photons-more = rw (one_more, filter-append (mine set) (h ++ rows (item b) at) (item b at ∷ []), mine_row, either) refl

    pub one_photon : BinIs set (bin_at set b at) (item b at ∷ [])
    one_photon = search (rules, arith, zero-add, moves_row, seen)

    -- it may come after those before it
    module _ (Before : History → Type 0) (inside : at < b.len) (can : CanTake set Before (gathered b) h) where
      pub few_row : length (photons_of_groups set (h ++ rows (item b) at)) + 1 ≤ record_limit
      few_row = omega (arith, can.few, inside, few_photons set (h ++ rows (item b) at), length-append h (rows (item b) at), length-rows (item b) at, length-rows (event_at b) b.len)

      pub after_row : AllByRecursion (λ x. x.0.time ≤ time_at b at) (photons_of_groups set (h ++ rows (item b) at))
      after_row =
          let split = rows-split (event_at b) at b.len (omega (arith, inside)) in
          let front = (order-parts false (greatest_time false h) (rows (event_at b) at) split.0 (rw split.1 at can.after)).0 in
          let next = order-at false (greatest_time false h) (event_at b) b.len at inside can.after in
          none_after set (h ++ rows (item b) at) (time_at b at) (rw (greatest-rows false h (item b) at front) (next.1 (moves_row false b at ∙ seen)))

      -- it may be put after those that came
      abbrev pub put_row : (Were : History → Type 0) → Were (photons_of_groups set (h ++ rows (item b) at)) → CanPut set Were (bin_at set b at) (photons_of_groups set (h ++ rows (item b) at)) (item b at ∷ [])
      put_row Were were = record { few = few_row; was = were; is = one_photon; after = after_row }

-- what a table that isn't closed may take
pub may_events : (closed : Bool) → closed ≡ false → (set : CoincidenceView) (p : Pairing) (count time : ℕ) (h : History) (es : List Event)
    → StandsFor closed set p count time h → count + length es ≤ record_limit → InOrder false time es → CanTake set (Came set p) es h
may_events closed open' set p count time h es is few after = search (rules, arith, false≢true)

-- what it stands for then
pub events_count : (closed : Bool) → closed ≡ false → (set : CoincidenceView) (p p' : Pairing) (count time count' time' : ℕ) (h : History) {N : ℕ} (b : Block N)
    → StandsFor closed set p count time h → InOrder false time (gathered b)
    → count' ≡ count + b.len → time' ≡ floor_after false time (gathered b)
    → Came set p' (photons_of_groups set (h ++ events_in b)) → StandsFor closed set p' count' time' (h ++ events_in b)
events_count true open' set p p' count time count' time' h b is after more moved came = absurd (false≢true (sym open'))
events_count false open' set p p' count time count' time' h b is after more moved came = record {
  taken = omega (arith, is.taken, more, length-append h (events_in b), length-rows (item b) b.len);
  floor = moved ∙ ap (λ n. floor_after false n (gathered b)) is.floor ∙ sym (greatest-rows false h (item b) b.len (rw is.floor at after));
  photons = came;
}
