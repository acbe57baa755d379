-- The sums of a strip, row by row.
use Rattle.std.proofs.Common.{◌≡◌, ◌∙◌, ℕ, ◌+◌, ◌-◌, ◌*◌, ◌/◌, ◌<◌, ◌≤◌, eqb, cond, List, length, get_or, take, drop, reverse, refl, sym, arith, rules}
use Rattle.std.proofs.{Common.{length-drop, min}, lemmas.{Bool.Decides.nat_tests, List.{get_or-drop, get_or-take, get_or-reverse, get_or_past, length-take}}}
use Rattle.{std.{proofs.lemmas.List.length-reverse, specs.List.{sum_by, range_with_len}}, tally_base.specs.Settings.CoincidenceView}
use Rattle.{lag_ring.specs.{declared.window.Side.TheVariants.{First, Second}, Cells.row_at}, coincidence.specs.Closing.{strip_sum, row_pairs, row_sum}}
use Rattle.coincidence.proofs.LagPairs.{at_one, range-parts, range-both, range-turned}

-- a difference in reach has a cell
pub row-inside : (n reach width : ℕ) → 0 < width → n ≤ 2 * reach → n / width < 2 * reach / width + 1
row-inside n reach width some upto = search (rules, arith)

-- a cell of one tick has one number of a row
pub row-single : (set : CoincidenceView) (c from : ℕ) (row : List ℕ) → set.width ≡ 1 → row_sum set c from row ≡ row_at from row c
row-single set c from row single =
    let cell : (n : ℕ) → eqb (n / set.width) c ≡ eqb n c = λ n. rw single (let same : n / 1 ≡ n = omega arith in rw same refl) in
    let past : (i : ℕ) → length row ≤ i → get_or row i 0 ≡ 0 = λ i over. get_or_past row i 0 over in
    at_one (row_pairs set c from row) (c - from) 0 (length row) (λ q low below other. rw (cell (from + q)) (grind (arith, nat_tests)))
    ∙ rw (cell (from + (c - from))) (grind (arith, nat_tests, past))

-- one number of a row more
pub row-more : (set : CoincidenceView) (c from q pairs : ℕ) (row : List ℕ) → pairs ≡ get_or row q 0
    → sum_by (row_pairs set c from row) (range_with_len 0 (q + 1)) ≡ sum_by (row_pairs set c from row) (range_with_len 0 q) + cond (eqb ((from + q) / set.width) c) (pairs * 1) 0
row-more set c from q pairs row is = search (rules, arith, range-parts)

module _ (set : CoincidenceView) (c least : ℕ) (sums : List ℕ) (full : length sums ≡ 256) (within : least ≤ set.reach) where
  abbrev count : ℕ
  count = min (set.reach - least) 256

  abbrev rising : List ℕ
  rising = take count (reverse sums)

  abbrev falling : List ℕ
  falling = take (256 - (256 - count)) (drop (256 - count) sums)

  rising-at : (i : ℕ) → i < count → get_or rising i 0 ≡ get_or sums (255 - i) 0
  rising-at i below = search (rules, arith, get_or-take, get_or-reverse)

  falling-at : (i : ℕ) → i < count → get_or falling i 0 ≡ get_or sums (256 - count + i) 0
  falling-at i below = search (rules, arith, get_or-take, get_or-drop)

  -- the lags of a strip are the differences of a row, in the same order or turned
  pub strip-forward : strip_sum First set c least sums ≡ row_sum set c (set.reach + least + 1) rising
  strip-forward =
      let len : length rising ≡ count = search (rules, arith, length-take, length-reverse) in
      rw len (range-both _ _ (least + 1) 0 count (λ i below.
      let apart : set.reach + (least + 1 + i) ≡ set.reach + least + 1 + (0 + i) = omega arith in
      let sum : get_or sums (least + 256 - (least + 1 + i)) 0 ≡ get_or rising (0 + i) 0 = let k : least + 256 - (least + 1 + i) ≡ 255 - (0 + i) = omega arith in rw k (sym (rising-at (0 + i) (omega (arith, below)))) in
      rw (apart, sum) refl))

  pub strip-backward : strip_sum Second set c least sums ≡ row_sum set c (set.reach - least - count) falling
  strip-backward =
      let len : length falling ≡ count = search (rules, arith, length-take, length-drop) in
      rw len (range-turned _ _ (least + 1) 0 count (λ i below.
      let q : ℕ = 0 + (count - 1 - i) in
      let apart : set.reach - (least + 1 + i) ≡ set.reach - least - count + q = omega arith in
      let sum : get_or sums (least + 256 - (least + 1 + i)) 0 ≡ get_or falling q 0 = let k : least + 256 - (least + 1 + i) ≡ 256 - count + q = omega arith in rw k (sym (falling-at q (omega arith))) in
      rw (apart, sum) refl))
