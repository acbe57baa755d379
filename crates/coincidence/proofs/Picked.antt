-- The rows of a block that have photons, one after the other.
use Rattle.std.proofs.Common.{rules, ◌≡◌, ℕ, zero, suc, ◌+◌, ◌-◌, ◌<◌, ◌≤◌, Bool, true, false, List, [], ◌∷◌, ◌++◌, length, get_or, drop, arith, cond, take}
use Rattle.std.proofs.{Common.{slice_set, add-one, drop-cons, inl, inr}, Math.{Nat.eq-or-lt_of_le, ListN.drop_of_length-le}, lemmas.List.take-set}
use Rattle.{std.{proofs.lemmas.List.take_more_set, specs.Prelude.Option}, tally_base.specs.{Settings.CoincidenceView, Tally.History}}
use Rattle.{tally_base.specs.{declared.block.Block.Block, Columns.{rows, item, gathered}}, lag_ring.specs.{Cells.Cells, Ring.Ring}}
use Rattle.coincidence.specs.{declared.pairing.Bin.Bin, Pairs.photons_of_groups, Pairing.{Gathered, CanPut}, StandsFor.{CanTake, Gathers}, Lone.bin_at}
use Rattle.coincidence.{specs.Picked.{has_either, HaveNone, ArePicked}, proofs.Blockwise.{photons-same, photons-more, put_row}}

module _ (set : CoincidenceView) {N : ℕ} (b : Block N) where
  none_more : (from upto : ℕ) → HaveNone set b from upto → has_either set b upto ≡ false → HaveNone set b from (upto + 1)
  none_more from upto none is i least most = elim (eq-or-lt_of_le {n = i} {m = upto} (omega (arith, most))) [
    | inl same ↦ rw same is
    | inr below ↦ none i least below
  ]

  -- the next row has no photon
  pub picked_none : (picked : List ℕ) (from upto : ℕ) → ArePicked set b picked from upto → has_either set b upto ≡ false → ArePicked set b picked from (upto + 1)
  picked_none [] from upto are is = none_more from upto are is
  picked_none (at ∷ rest) from upto are is = (are.0, omega (arith, are.1), are.2, are.3, picked_none rest (at + 1) upto are.4 is)

  -- it has one
  pub picked_more : (picked : List ℕ) (from upto : ℕ) → from ≤ upto → ArePicked set b picked from upto → has_either set b upto ≡ true → ArePicked set b (picked ++ upto ∷ []) from (upto + 1)
  picked_more [] from upto within are is = (within, omega arith, is, are, λ i least most. absurd (omega (arith, least, most)))
  picked_more (at ∷ rest) from upto within are is = search (rules, arith, picked_more rest (at + 1) upto (omega (arith, are.1)) are.4 is)

  -- the next row is put after the others, and counts where it has one
  pub picked_row : (v : Bool) (xs : List ℕ) (n at : ℕ) → n < length xs → has_either set b at ≡ v → ArePicked set b (take n xs) 0 at → ArePicked set b (take (n + cond v 1 0) (slice_set xs n at)) 0 (at + 1)
  picked_row v xs n at room is are = search (rules, arith, take_more_set, picked_more, take-set, picked_none)

  module _ (last : Option Bin) (r : Ring) (counts : Cells) (bins : List Bin) (h : History) where
    passed : (from n : ℕ) → HaveNone set b from (from + n) → Gathered set last r counts bins (photons_of_groups set (h ++ rows (item b) from)) → Gathered set last r counts bins (photons_of_groups set (h ++ rows (item b) (from + n)))
    passed from zero none was = let end : from + 0 ≡ from = omega arith in rw end was
    passed from (suc n) none was =
        let end : from + suc n ≡ (from + n) + 1 = omega arith in
        rw (end, photons-same set b h (from + n) (none (from + n) (omega arith) (omega arith))) (passed from n (λ i least most. none i least (omega (arith, most))) was)

    -- rows of no photon bring none
    pub gathered_upto : (from upto : ℕ) → from ≤ upto → HaveNone set b from upto → Gathered set last r counts bins (photons_of_groups set (h ++ rows (item b) from)) → Gathered set last r counts bins (photons_of_groups set (h ++ rows (item b) upto))
    gathered_upto from upto within none was =
        let end : from + (upto - from) ≡ upto = omega (arith, within) in
        rw end at (passed from (upto - from) (rw end none) was)

  -- the rows before one are gathered, and of those from it on the ones that are left have photons
  pub record GatheredTo (waiting last : Option Bin) (bins : List Bin) (left : List ℕ) : Type 0 where
    pub from : ℕ
    pub within : from ≤ b.len
    pub picked : ArePicked set b left from b.len
    pub came : (ring : Ring) (cells : Cells) (h : History) → CanTake set (Gathered set waiting ring cells []) (gathered b) h → Gathered set last ring cells bins (photons_of_groups set (h ++ rows (item b) from))

  module _ (waiting last : Option Bin) (bins : List Bin) (picked : List ℕ) (i : ℕ) (are : GatheredTo waiting last bins (drop i picked)) where
    pub gathered_end : length picked ≤ i → Gathers set waiting last bins (gathered b) (rows (item b) b.len)
    gathered_end end ring cells h can =
        gathered_upto last ring cells bins h are.from b.len are.within (rw (drop_of_length-le picked end) at are.picked) (are.came ring cells h can)

    module _ (inside : i < length picked) where
      abbrev at : ℕ
      at = get_or picked i 0

      next : ArePicked set b (at ∷ drop (i + 1) picked) are.from b.len
      next = let split : drop i picked ≡ at ∷ drop (i + 1) picked = rw (add-one, drop-cons picked i 0) in rw split at are.picked

      pub next_within : at < b.len
      next_within = next.1

      pub may_gather : (ring : Ring) (cells : Cells) (h : History) → CanTake set (Gathered set waiting ring cells []) (gathered b) h
          → CanPut set (Gathered set last ring cells bins) (bin_at set b at) (photons_of_groups set (h ++ rows (item b) at)) (item b at ∷ [])
      may_gather ring cells h can = put_row set b h at next.2 _ next.1 can _ (gathered_upto last ring cells bins h are.from at next.0 next.3 (are.came ring cells h can))

      pub gathers_more : (now : Option Bin) (more : List Bin)
          → ((ring : Ring) (cells : Cells) (came xs : History) → CanPut set (Gathered set last ring cells bins) (bin_at set b at) came xs → Gathered set now ring cells more (came ++ xs))
          → GatheredTo waiting now more (drop (i + 1) picked)
      gathers_more now more follows = record {
        from = at + 1;
        within = omega (arith, next.1);
        picked = next.4;
        came = λ ring cells h can. rw (photons-more set b h at next.2) (follows ring cells _ _ (may_gather ring cells h can));
      }
