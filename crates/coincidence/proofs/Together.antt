-- Bins that are closed one after another, or together.
use Rattle.std.proofs.Common.{Bool, true, ◌∙◌, ◌≡◌, ℕ, ◌+◌, ◌<◌, List, [], ◌∷◌, ◌++◌, length, arith, append_assoc, length-append, append-nil, rules, ◌-◌, ◌*◌}
use Rattle.std.proofs.{Common.{◌≤◌, leb, refl, Some, slice_get}, Math.{Logic.∥∥₁_map, Nat.mul-le-mul_right}, lemmas.List.{length-map, Elements.filter-append}}
use Rattle.{std.{proofs.lemmas.List.Sums.sum_by-cons, specs.List.{sum_by, filter, AllByRecursion}}, tally_base.specs.{Settings.CoincidenceView, Tally.History}}
use Rattle.lag_ring.specs.{declared.{window.Side.TheVariants.{First, Second}, ring.Entry.Entry}, Cells.Cells, Ring.{Ring, ring, IsRising}}
use Rattle.lag_ring.proofs.{Lists.{all_front, all_back, of_some}, Kept.{weights_on, kept_late}, Rising.{all_weaker, all_at, upto_join, rising_filter}}
use Rattle.coincidence.specs.{declared.pairing.{Bin.Bin, Pairing.Pairing}, Pairing.{bin_pairs, RingIs, CellsAre, MayClose, Closes, BinsAre, HasRoom, Counts}}
use Rattle.coincidence.{specs.{Closing.{weights_in, both_lag_sums}, Pairs.{in_first, in_second, coincidences}}, proofs.LagPairs.{lags_in_turn, in_turn}}
use Rattle.coincidence.proofs.{LagPairs.rising_join, Shut.{CanClose, filter_none, Weights, ring_weights, grown_by, bin_both, sums_fit}}

-- Bins that are closed together bring what they bring one by one.

more_for_all : (r few more n was now : ℕ) → n ≤ more → was ≤ (2 * r + 1) * few → now ≤ was + (2 * (n * r) + n) → now ≤ (2 * r + 1) * (few + more)
more_for_all r few more n was now upto were is = search (rules, arith, mul-le-mul_right)

module _ (set : CoincidenceView) where
  -- entries with those of bins have the weights of the bins' photons too
  bins_weights : (bins : List Bin) (es : List Entry) (closed xs : History) → Weights set es closed → BinsAre set bins closed xs → Weights set (es ++ weights_in bins) (closed ++ xs)
  bins_weights [] es closed xs were are = rw (are, append-nil closed, append-nil es) were
  bins_weights (bin ∷ bins) es closed xs were are =
      let next = weights_on (in_first set) (in_second set) (λ x. x.0.time) set.reach es closed are.0 bin.weights were are.3.weighs in
      rw (are.2, ← append_assoc closed are.0 are.1, ← append_assoc es (bin.weights ∷ []) (weights_in bins)) (bins_weights bins (es ++ bin.weights ∷ []) (closed ++ are.0) are.1 next are.5)

  -- what the bins bring to a cell: pairs of each direction, and those inside the bins
  chain_grown : (bins : List Bin) (es : List Entry) (closed xs : History) → Weights set es closed → BinsAre set bins closed xs → (c : ℕ) → coincidences set c (closed ++ xs) ≡ coincidences set c closed
      + (in_turn First set c es (weights_in bins) + in_turn Second set c es (weights_in bins) + sum_by (λ bin. bin_pairs set c bin []) bins)
  chain_grown [] es closed xs were are c = rw (are, append-nil closed) (omega arith)
  chain_grown (bin ∷ bins) es closed xs were are c =
      let next = weights_on (in_first set) (in_second set) (λ x. x.0.time) set.reach es closed are.0 bin.weights were are.3.weighs in
      let rest = chain_grown bins (es ++ bin.weights ∷ []) (closed ++ are.0) are.1 next are.5 c in
      rw (are.2, ← append_assoc closed are.0 are.1) (omega (arith, rest, grown_by set bin closed are.0 are.3 es were are.4 c, sum_by-cons (λ b. bin_pairs set c b []) bin bins))

  pub few_bins : (bins : List Bin) (closed xs : History) → BinsAre set bins closed xs → length bins ≤ length xs
  few_bins [] closed xs are = omega arith
  few_bins (bin ∷ bins) closed xs are = rw are.2 (omega (arith, length-append are.0 are.1, are.3.weighs.some, few_bins bins (closed ++ are.0) are.1 are.5))

  -- what holds of each index above the closed photons holds of the bins'
  bins_all : (P : ℕ → Type 0) (bins : List Bin) (closed xs : History) → ((m : ℕ) → AllByRecursion (λ x. x.0.time < m) closed → P m)
      → BinsAre set bins closed xs → AllByRecursion (λ e. P e.index) (weights_in bins)
  bins_all P [] closed xs f are = tt
  bins_all P (bin ∷ bins) closed xs f are =
      (f bin.weights.index are.4, bins_all P bins (closed ++ are.0) are.1 (λ m all. f m (all_front (λ x. x.0.time < m) closed are.0 all)) are.5)

  pub bins_rising : (bins : List Bin) (closed xs : History) → BinsAre set bins closed xs → IsRising (weights_in bins)
  bins_rising [] closed xs are = tt
  bins_rising (bin ∷ bins) closed xs are = (
    bins_all (λ m. bin.weights.index < m) bins (closed ++ are.0) are.1 (λ m all. of_some (λ x. x.0.time) bin.weights.index
        (λ k. k < m) are.0 are.3.weighs.some are.3.weighs.here (all_back (λ x. x.0.time < m) closed are.0 all)) are.5,
    bins_rising bins (closed ++ are.0) are.1 are.5,
  )

  pub bins_above : (r : Ring) (bins : List Bin) (closed xs : History) → RingIs set r closed → BinsAre set bins closed xs
      → AllByRecursion (λ l. AllByRecursion (λ e. e.index < l.index) r.entries) (weights_in bins)
  bins_above r bins closed xs were are = bins_all (λ m. AllByRecursion (λ e. e.index < m) r.entries) bins closed xs were.keeps.bounded are

  pub bins_both : (bins : List Bin) (closed xs : History) → BinsAre set bins closed xs → AllByRecursion (λ bin. bin.both ≤ bin.weights.a * bin.weights.b) bins
  bins_both [] closed xs are = tt
  bins_both (bin ∷ bins) closed xs are = (bin_both set bin are.0 are.3, bins_both bins (closed ++ are.0) are.1 are.5)

  bins_below : (m : ℕ) (bins : List Bin) (closed xs : History) → AllByRecursion (λ x. x.0.time < m) xs → BinsAre set bins closed xs → AllByRecursion (λ e. e.index < m) (weights_in bins)
  bins_below m [] closed xs all are = tt
  bins_below m (bin ∷ bins) closed xs all are =
      let both = rw are.2 at all in (
        of_some (λ x. x.0.time) bin.weights.index (λ k. k < m) are.0 are.3.weighs.some are.3.weighs.here (all_front (λ x. x.0.time < m) are.0 are.1 both),
        bins_below m bins (closed ++ are.0) are.1 (all_back (λ x. x.0.time < m) are.0 are.1 both) are.5,
      )

  module _ (p : Pairing) (bins : List Bin) (closed xs : History) (can : CanClose set p bins closed xs) (later : List Entry) (is : later ≡ weights_in bins) where
    pub joined_rising : IsRising (p.ring.entries ++ later)
    joined_rising = rising_join p.ring.entries later can.ring.rising (rw is (bins_rising bins closed xs can.are)) (rw is (bins_above p.ring bins closed xs can.ring can.are))

    module _ (some : 0 < set.reach) (last : Entry) (end : slice_get later (length later - 1) ≡ Some last) where
      -- none is further ahead of what is still in reach of the last than the reach
      pub all_near : AllByRecursion (λ e. e.index < last.index - (set.reach - 1) + p.ring.reach) (p.ring.entries ++ later)
      all_near = all_weaker (λ (e : Entry). e.index ≤ last.index) (λ (e : Entry). e.index < last.index - (set.reach - 1) + p.ring.reach)
          (λ e upto. omega (arith, upto, some, can.ring.reach)) (p.ring.entries ++ later) (upto_join p.ring.entries later last joined_rising end)

      pub all_kept : RingIs set (ring (filter (λ e. leb (last.index - (set.reach - 1)) e.index) (p.ring.entries ++ later)) p.ring.reach) (closed ++ xs)
      all_kept =
          let at : slice_get (weights_in bins) (length (weights_in bins) - 1) ≡ Some last = rw is at end in
          let upto = upto_join p.ring.entries later last joined_rising end in
          let weights : Weights set (p.ring.entries ++ later) (closed ++ xs) = rw is (bins_weights bins p.ring.entries closed xs (ring_weights set p.ring closed can.ring) can.are) in
          record {
            reach = can.ring.reach;
            rising = rising_filter _ _ joined_rising;
            keeps = rw can.ring.reach (kept_late (in_first set) (in_second set) (λ x. x.0.time) set.reach (p.ring.entries ++ later) (closed ++ xs) last.index some
                (λ m any all. all_at (λ (e : Entry). e.index < m) (weights_in bins) (length (weights_in bins) - 1) last at (bins_below m bins closed xs (all_back (λ x. x.0.time < m) closed xs all) can.are)) weights joined_rising upto);
          }

    -- what they bring is summed lag by lag
    all_grown : (c : ℕ) → coincidences set c (closed ++ xs) ≡ coincidences set c closed + (both_lag_sums set c 0 set.reach (p.ring.entries ++ later) later + sum_by (λ bin. bin_pairs set c bin []) bins)
    all_grown c =
        let rising = bins_rising bins closed xs can.are in
        let above = bins_above p.ring bins closed xs can.ring can.are in
        rw is (omega (arith, chain_grown bins p.ring.entries closed xs (ring_weights set p.ring closed can.ring) can.are c, lags_in_turn First set c p.ring.entries (weights_in bins) rising above, lags_in_turn Second set c p.ring.entries (weights_in bins) rising above))

    pub all_fit : HasRoom set p.cells (λ c. both_lag_sums set c 0 set.reach (p.ring.entries ++ later) later + sum_by (λ bin. bin_pairs set c bin []) bins)
    all_fit = sums_fit set p bins closed xs can _ all_grown

    pub all_cells : (new : Cells) (before now : ℕ)
        → Counts set p.cells new before now (λ c. both_lag_sums set c 0 set.reach (p.ring.entries ++ later) later + sum_by (λ bin. bin_pairs set c bin []) bins) (2 * (length later * set.reach) + length bins) → CellsAre set new (closed ++ xs)
    all_cells new before now counts =
        let work : new.added ≤ (2 * set.reach + 1) * length (closed ++ xs) = rw (length-append closed xs)
        (more_for_all set.reach (length closed) (length xs) (length bins) p.cells.added new.added (few_bins bins closed xs can.are) can.cells.work (rw (is, length-map) at counts.spends.added)) in
        search (rules, arith, all_grown, work)

-- One bin that is put after the closed ones.

module _ (set : CoincidenceView) (p : Pairing) (bin : Bin) (closed xs : History) (can : CanClose set p (bin ∷ []) closed xs) (some : 0 < set.reach) where
  abbrev stays : Entry → Bool
  stays f = leb (bin.weights.index - (set.reach - 1)) f.index

  -- a ring that let go what is further back than the reach has room for it, and keeps it
  pub ring_shut : RingIs set (ring (filter stays p.ring.entries ++ bin.weights ∷ []) p.ring.reach) (closed ++ xs)
  ring_shut =
      let stay : stays bin.weights ≡ true = search (rules, arith) in
      let split : filter stays (p.ring.entries ++ bin.weights ∷ []) ≡ filter stays p.ring.entries ++ bin.weights ∷ [] = filter-append stays p.ring.entries (bin.weights ∷ []) ∙ rw stay refl in
      rw split at (all_kept set p (bin ∷ []) closed xs can (bin.weights ∷ []) refl some bin.weights refl)

  pub place_left : length (filter stays p.ring.entries) < p.ring.reach
  place_left = omega (arith, ring_shut.keeps.within, length-append (filter stays p.ring.entries) (bin.weights ∷ []))

  -- and has it alone where no entry is in reach
  pub ring_alone : AllByRecursion (λ e. e.index + set.reach < bin.weights.index) p.ring.entries → RingIs set (ring (bin.weights ∷ []) p.ring.reach) (closed ++ xs)
  ring_alone far = search (rules, arith, filter_none, all_weaker, ring_shut)

-- Bins that are closed part by part.

module _ (set : CoincidenceView) where
  pub part_may : (p : Pairing) (part behind : List Bin) → MayClose set p (part ++ behind) → MayClose set p part
  part_may p part behind may = ∥∥₁_map may (λ w. (behind ++ w.0, w.1, rw (append_assoc part behind w.0) at w.2))

  pub closes_none : (p : Pairing) (n : ℕ) → Closes set p p [] n n
  closes_none p n = record { follows = λ rest came is. is; steps = refl }

  -- where a part is closed, the rest may be, and then all are
  module _ (old mid : Pairing) (part behind : List Bin) (before then' : ℕ) (done : Closes set old mid part before then') where
    pub rest_may : MayClose set old (part ++ behind) → MayClose set mid behind
    rest_may may = ∥∥₁_map may (λ w. (w.0, w.1, done.follows (behind ++ w.0) w.1 (rw (append_assoc part behind w.0) at w.2)))

    pub closes_on : (new : Pairing) (now : ℕ) → Closes set mid new behind then' now → Closes set old new (part ++ behind) before now
    closes_on new now next = record {
      follows = λ rest came is. next.follows rest came (done.follows (behind ++ rest) came (rw (append_assoc part behind rest) at is));
      steps = omega (arith, done.steps, next.steps);
    }
