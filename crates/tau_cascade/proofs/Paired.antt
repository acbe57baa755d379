-- What bins add to the cells, and what they stand for.
use Rattle.std.proofs.Common.{◌≡◌, ℕ, ◌+◌, ◌-◌, ◌*◌, ◌^◌, ◌<◌, ◌≤◌, ◌&&◌, eqb, List, [], ◌∷◌, ◌++◌, length, get_or, refl, sym, ◌∙◌, append_assoc, append-nil}
use Rattle.std.{proofs.{Common.{arith, length-append, rules}, Math.Nat.mul-le-mul}, specs.List.{count_by, AllByRecursion}}
use Rattle.{tally_base.specs.{Settings.CorrelationView, Tally.History, Limits.record_limit}, lag_ring.specs.{declared.ring.Entry.Entry, Cells.Cells}}
use Rattle.lag_ring.{specs.{Cells.added_at, Ring.{Ring, IsRising}}, proofs.{Kept.{HasWeights, weights_of, weights_on}, Rising.{all_weaker, rising_push}}}
use Rattle.{lag_ring.proofs.Sums.pairs-append, tau_cascade.specs.{Correlation.{bin, in_first, in_second, correlation, skipped_lags, lag_count}, Work.occupied}}
use Rattle.tau_cascade.{specs.{Levels.{IsBin, RingIs, CellsAre, weight_before}, Dense.paired, Bins.{Follow, CanShutAll}}, proofs.Work.correlation-le}
use Rattle.tau_cascade.proofs.Work.{occupied-more}

module _ (set : CorrelationView) (level : ℕ) where
  -- bins have the weights of photons, as those that a ring keeps
  abbrev pub Weights : List Entry → History → Type 0
  Weights es xs = HasWeights (in_first set) (in_second set) (bin level) set.lags es xs

  pub ring_weights : (r : Ring) (closed : History) → RingIs set level r closed → Weights r.entries closed
  ring_weights r closed is = rw (← is.reach) (weights_of (in_first set) (in_second set) (bin level) r closed is.keeps)

  -- one bin more
  push : (before : List Entry) (e : Entry) (closed run : History) → Weights before closed → IsBin set level e run → Weights (before ++ e ∷ []) (closed ++ run)
  push before e closed run were is = weights_on (in_first set) (in_second set) (bin level) set.lags before closed run e were is

  -- those that follow
  pub weights_all : (before es : List Entry) (closed xs : History) → Weights before closed → Follow set level closed es xs → Weights (before ++ es) (closed ++ xs)
  weights_all before [] closed xs were follow = rw (follow, append-nil, append-nil) were
  weights_all before (e ∷ es) closed xs were follow =
      let rest = weights_all (before ++ e ∷ []) es (closed ++ follow.0) follow.1 (push before e closed follow.0 were follow.3) follow.5 in
      rw follow.2 (rw (append_assoc before (e ∷ []) es, append_assoc closed follow.0 follow.1) at rest)

  -- at a lag they have what the photons have
  at_lag : (before : List Entry) (closed : History) → Weights before closed → (n k : ℕ) → k ≤ set.lags → AllByRecursion (λ x. bin level x < n) closed
      → weight_before k n before ≡ count_by (λ x. in_first set x && eqb (bin level x + k) n) closed
  at_lag before closed were n k few under =
      were.firsts (λ i. eqb (i + k) n) (λ i passes. all_weaker (λ y. bin level y < n) (λ y. bin level y < i + set.lags) (λ y below. let there : i + k ≡ n = grind arith in omega arith) closed under)

  -- what closed bins add is what their photons add
  pub correlation_paired : (k : ℕ) → 0 < k → k ≤ set.lags → (es before : List Entry) (closed xs : History) → Weights before closed
      → Follow set level closed es xs → correlation set level k (closed ++ xs) ≡ correlation set level k closed + paired k before es
  correlation_paired k some few [] before closed xs were follow = rw (follow, append-nil) (grind arith)
  correlation_paired k some few (e ∷ es) before closed xs were follow =
      let below : AllByRecursion (λ x. bin level x ≤ e.index) closed = search (rules, arith, all_weaker) in
      let grown = pairs-append (in_first set) (in_second set) (bin level) k e.index closed follow.0 some below follow.3.here in
      let one : correlation set level k (closed ++ follow.0) ≡ correlation set level k closed + weight_before k e.index before * e.b =
      grown ∙ rw (at_lag before closed were e.index k few follow.4, follow.3.b) refl in
      let rest =
      correlation_paired k some few es (before ++ e ∷ []) (closed ++ follow.0) follow.1 (push before e closed follow.0 were follow.3) follow.5 in
      rw (follow.2, ← append_assoc closed follow.0 follow.1) (omega (arith, rest, one))

  -- each closed bin is one more that is occupied
  pub occupied_all : (es : List Entry) (closed xs : History) → Follow set level closed es xs → occupied level (closed ++ xs) ≡ occupied level closed + length es
  occupied_all [] closed xs follow = rw (follow, append-nil) (omega arith)
  occupied_all (e ∷ es) closed xs follow =
      let one = occupied-more set level closed follow.0 e.index follow.4 follow.3.some follow.3.here in
      search (rules, arith, append_assoc, occupied_all es (closed ++ follow.0) follow.1 follow.5)

  -- the bins rise after those before them
  rising_all : (before es : List Entry) (closed xs : History) → IsRising before → Weights before closed → Follow set level closed es xs → IsRising (before ++ es)
  rising_all before [] closed xs rising were follow = rw append-nil rising
  rising_all before (e ∷ es) closed xs rising were follow =
      let rest = rising_all (before ++ e ∷ []) es (closed ++ follow.0) follow.1 (rising_push before e rising (were.bounded e.index follow.4)) (push before e closed follow.0 were follow.3) follow.5 in
      (rw (append_assoc before (e ∷ []) es) at rest)

  module _ (skipped : ℕ) (is_skipped : skipped ≡ skipped_lags set level) (r : Ring) (cells : Cells)
      (es : List Entry) (closed xs : History) (can : CanShutAll set level r cells es closed xs) where
    all_more : (p : ℕ) → p < set.lags - skipped
        → correlation set level (p + skipped + 1) (closed ++ xs) ≡ get_or cells.cells p 0 + paired (p + skipped + 1) r.entries es
    all_more p inside = search (rules, arith, correlation_paired, ring_weights)

    pub all_rising : IsRising (r.entries ++ es)
    all_rising = rising_all r.entries es closed xs can.ring.rising (ring_weights r closed can.ring) can.bins

    pub all_fit : (p : ℕ) → p < set.lags - skipped → get_or cells.cells p 0 + paired (p + skipped + 1) r.entries es ≤ 2 ^ 80
    all_fit p inside =
        let all : length (closed ++ xs) ≤ record_limit = rw (length-append closed xs) can.few in
        omega (arith, all_more p inside, correlation-le set level (p + skipped + 1) (closed ++ xs), mul-le-mul all all)

    work_all : cells.added + (set.lags - skipped) * length es ≤ lag_count set level * occupied level (closed ++ xs)
    work_all = rw (is_skipped, occupied_all es closed xs can.bins) (let was = can.cells.counts.work in grind arith)

    pub cells_all : (new : Cells) → ((p : ℕ) → p < set.lags - skipped → get_or new.cells p 0 ≡ get_or cells.cells p 0 + paired (p + skipped + 1) r.entries es)
        → length new.cells ≡ length cells.cells → new.added ≤ cells.added + (set.lags - skipped) * length es
        → ((p : ℕ) → added_at new p ≤ added_at cells p + length es) → CellsAre set level new (closed ++ xs)
    cells_all new pairs same added each = record {
      counts = record {
        count = same ∙ can.cells.counts.count;
        pairs = λ p inside. rw (← is_skipped) (pairs p (rw is_skipped inside) ∙ sym (all_more p (rw is_skipped inside)));
        work = omega (arith, added, work_all);
      };
      each = λ p. omega (arith, each p, can.cells.each p, occupied_all es closed xs can.bins);
    }
