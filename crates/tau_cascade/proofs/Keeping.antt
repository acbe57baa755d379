-- What the ring of a level keeps once some bins are closed.
use Rattle.std.proofs.Common.{◌≡◌, ℕ, zero, suc, ◌+◌, ◌-◌, ◌<◌, ◌≤◌, leb, List, [], ◌∷◌, ◌++◌, length, take, drop, get_or, refl, append_assoc, append-nil}
use Rattle.{std.{proofs.{Common.{arith, rules}, lemmas.List.drop_more}, specs.List.{filter, AllByRecursion}}, tally_base.specs.Settings.CorrelationView}
use Rattle.{tally_base.specs.Tally.History, lag_ring.{specs.{declared.ring.Entry.Entry, Ring.{Ring, ring, IsRising}}, proofs.{Kept.kept_late, Lists.all_front}}}
use Rattle.{lag_ring.proofs.{Lists.{all_back, all_join, of_some}, Rising.{rising_filter, all_weaker, filter_passed}}, tau_cascade.specs.Correlation.bin}
use Rattle.tau_cascade.{specs.{Correlation.{in_first, in_second}, Levels.RingIs, Bins.Follow}, proofs.Paired.{ring_weights, weights_all}}

-- the index of the last of some entries, or a number where there are none
abbrev pub last_of : ℕ → List Entry → ℕ
last_of n [] = n
last_of n (f ∷ fs) = last_of f.index fs

-- no photon of bins is after the last
pub follow_upto : (set : CorrelationView) (level : ℕ) (e : Entry) (es : List Entry) (closed xs : History) → Follow set level closed (e ∷ es) xs → AllByRecursion (λ x. bin level x ≤ last_of e.index es) (closed ++ xs)
follow_upto set level e [] closed xs follow = search (rules, arith, all_join, all_weaker, append-nil)
follow_upto set level e (f ∷ fs) closed xs follow = rw (follow.2, ← append_assoc closed follow.0 follow.1) (follow_upto set level f fs (closed ++ follow.0) follow.1 follow.5)

-- and one is in its bin
follow_last : (set : CorrelationView) (level : ℕ) (e : Entry) (es : List Entry) (closed xs : History) → Follow set level closed (e ∷ es) xs → (m : ℕ) → AllByRecursion (λ x. bin level x < m) (closed ++ xs) → last_of e.index es < m
follow_last set level e [] closed xs follow m all =
    let run = all_front (λ x. bin level x < m) follow.0 follow.1 (rw follow.2 at (all_back (λ x. bin level x < m) closed xs all)) in
    of_some (bin level) e.index (λ n. n < m) follow.0 follow.3.some follow.3.here run
follow_last set level e (f ∷ fs) closed xs follow m all = follow_last set level f fs (closed ++ follow.0) follow.1 follow.5 m (rw (follow.2, ← append_assoc closed follow.0 follow.1) at all)

-- the ring keeps those bins that the last one reaches
pub ring_all : (set : CorrelationView) (level : ℕ) → 0 < set.lags → (e : Entry) (es : List Entry) (r : Ring) (closed xs : History) → RingIs set level r closed → Follow set level closed (e ∷ es) xs → IsRising (r.entries ++ e ∷ es)
    → RingIs set level (ring (filter (λ f. leb (last_of e.index es - (set.lags - 1)) f.index) (r.entries ++ e ∷ es)) r.reach) (closed ++ xs)
ring_all set level some e es r closed xs was follow rising =
    let last : ℕ = last_of e.index es in
    let all : List Entry = r.entries ++ e ∷ es in
    let weights = weights_all set level r.entries (e ∷ es) closed xs (ring_weights set level r closed was) follow in
    let below = all_weaker (λ x. bin level x ≤ last) (λ x. bin level x < last + 1) (λ x upto. omega arith) (closed ++ xs) (follow_upto set level e es closed xs follow) in
    record {
      reach = was.reach;
      rising = rising_filter (λ f. leb (last - (set.lags - 1)) f.index) all rising;
      keeps = rw was.reach (kept_late (in_first set) (in_second set) (bin level) set.lags all (closed ++ xs) last some (λ m any. follow_last set level e es closed xs follow m) weights rising
          (all_weaker (λ f. f.index < last + 1) (λ f. f.index ≤ last) (λ f under. omega arith) all (weights.bounded (last + 1) below)));
    }

-- what is kept of bins of which those before a place go
pub kept_is : (before start : ℕ) (bins : List Entry) → AllByRecursion (λ e. e.index < before) (take start bins) → AllByRecursion (λ e. before ≤ e.index) (drop start bins) → filter (λ e. leb before e.index) bins ≡ drop start bins
kept_is before zero bins left kept = search (rules, arith, filter_passed, all_weaker)
kept_is before (suc start) [] left kept = refl
kept_is before (suc start) (e ∷ es) left kept = search (rules, arith, kept_is before start es left.1 kept)

-- from one bin on, all are kept
pub kept_from : (before start : ℕ) (bins : List Entry) (none : Entry) → 0 < start → start ≤ length bins → before ≤ (get_or bins (start - 1) none).index
    → AllByRecursion (λ e. before ≤ e.index) (drop start bins) → AllByRecursion (λ e. before ≤ e.index) (drop (start - 1) bins)
kept_from before start bins none some inside here kept = search (rules, arith, drop_more)
