-- Photons that are alone in their reach make no pair.
use Rattle.std.proofs.Common.{◌≡◌, ℕ, zero, suc, ◌+◌, ◌-◌, ◌*◌, ◌<◌, ◌≤◌, Bool, true, ◌&&◌, ◌||◌, cond, [], ◌∷◌, ◌++◌, refl, arith, rules, Some, None}
use Rattle.tally_base.specs.{Settings.CoincidenceView, Tally.History, declared.block.Block.Block, Columns.{rows, item, time_at, gathered}}
use Rattle.{lag_ring.specs.{Cells.Cells, Ring.{Ring, ring}}, coincidence.specs.{declared.pairing.{Bin.Bin, Pairing.Pairing}, Pairs.photons_of_groups}}
use Rattle.coincidence.{specs.{Pairing.{bin_pairs, Gathered}, StandsFor.CanTake, Lone.{has_photon, bin_at, IsAlone, IsLone}}, proofs.Blockwise.put_row}
use Rattle.coincidence.proofs.{Blockwise.photons-more, Shut.{closes, cells_alone}, Together.ring_alone, Visits.{moves, close_on}}

no_pairs : (set : CoincidenceView) (c : ℕ) (bin : Bin) → bin.both ≡ bin.weights.a * bin.weights.b → bin_pairs set c bin [] ≡ 0
no_pairs set c bin is = search (rules, arith)

one_both : (x y : Bool) → cond (x && y) 1 0 ≡ cond x 1 0 * cond y 1 0
one_both x y = search (rules, arith)

early_at : {N : ℕ} (set : CoincidenceView) (b : Block N) (i j : ℕ) → i - 1 ≡ j → IsLone set b i → time_at b j + set.reach < time_at b i
early_at set b i j is lone = rw is at lone.1

module _ {N : ℕ} (set : CoincidenceView) (Before : History → Type 0) (b : Block N) (h : History) (can : CanTake set Before (gathered b) h) (some : 0 < set.reach) (cells : Cells) where
  -- a photon comes after an open bin that is alone
  lone_next : (r : Ring) (bin : Bin) (at next : ℕ) → next ≡ at + 1 → at < b.len → IsAlone set r.entries bin
      → bin.weights.index + set.reach < time_at b at → (has_photon b at set.first || has_photon b at set.second) ≡ true
      → Gathered set (Some bin) r cells [] (photons_of_groups set (h ++ rows (item b) at))
      → Gathered set (Some (bin_at set b at)) (ring (bin.weights ∷ []) r.reach) cells [] (photons_of_groups set (h ++ rows (item b) next))
  lone_next r bin at next is inside alone early either came =
      let moved = moves set r cells [] _ bin (bin_at set b at) _ (put_row set b h at either Before inside can _ came) (omega (arith, early)) in
      let old : Pairing = record { «open» = None; ring = r; cells = cells } in
      let done = closes set old (bin ∷ []) (record { «open» = None; ring = ring (bin.weights ∷ []) r.reach; cells = cells }) 0 0 (λ closed xs may. (
        ring_alone set old bin closed xs may some alone.1,
        cells_alone set old bin closed xs may cells 0 0 alone.1 (record { cells = λ c in_range. omega (arith, no_pairs set c bin alone.0); spends = record { same = refl; added = omega arith; steps = refl } }),
      )) refl in
      rw (is, photons-more set b h at either) (close_on set r cells (bin ∷ []) _ _ _ _ [] moved (done.follows [] moved.shut moved.pending))

  -- rows after an open bin that is alone
  pub lone_run : (r : Ring) (bin : Bin) (k : ℕ) → bin.weights.index ≡ time_at b k → IsAlone set r.entries bin
      → (n to : ℕ) → to ≡ k + n + 3 → to ≤ b.len → ((i : ℕ) → k + 1 ≤ i → i < to → IsLone set b i)
      → Gathered set (Some bin) r cells [] (photons_of_groups set (h ++ rows (item b) (k + 1)))
      → Gathered set (Some (bin_at set b (to - 1))) (ring ((bin_at set b (to - 2)).weights ∷ []) r.reach) cells [] (photons_of_groups set (h ++ rows (item b) to))
  lone_run r bin k here alone zero to is within lones came =
      let first = lones (to - 2) (omega (arith, is)) (omega (arith, is)) in
      let second = lones (to - 1) (omega (arith, is)) (omega (arith, is)) in
      let early : bin.weights.index + set.reach < time_at b (to - 2) = omega (arith, here, early_at set b (to - 2) k (omega (arith, is)) first) in
      let start : k + 1 ≡ to - 2 = omega (arith, is) in
      let one = lone_next r bin (to - 2) (to - 1) (omega (arith, is)) (omega (arith, is, within)) alone early first.0 (rw start at came) in
      lone_next (ring (bin.weights ∷ []) r.reach) (bin_at set b (to - 2)) (to - 1) to (omega (arith, is)) (omega (arith, is, within))
      (one_both (has_photon b (to - 2) set.first) (has_photon b (to - 2) set.second), (early, tt))
      (early_at set b (to - 1) (to - 2) (omega (arith, is)) second) second.0 one
  lone_run r bin k here alone (suc n) to is within lones came =
      let was = lone_run r bin k here alone n (to - 1) (omega (arith, is)) (omega (arith, is, within)) (λ i from below. lones i from (omega (arith, below))) came in
      let first = lones (to - 1 - 1) (omega (arith, is)) (omega (arith, is)) in
      let second = lones (to - 1) (omega (arith, is)) (omega (arith, is)) in
      let same : to - 2 ≡ to - 1 - 1 = omega (arith, is) in
      rw same (lone_next (ring ((bin_at set b (to - 1 - 2)).weights ∷ []) r.reach) (bin_at set b (to - 1 - 1)) (to - 1) to (omega (arith, is)) (omega (arith, is, within))
      (one_both (has_photon b (to - 1 - 1) set.first) (has_photon b (to - 1 - 1) set.second), (early_at set b (to - 1 - 1) (to - 1 - 2) (omega (arith, is)) first, tt))
      (early_at set b (to - 1) (to - 1 - 1) (omega (arith, is)) second) second.0 was)
