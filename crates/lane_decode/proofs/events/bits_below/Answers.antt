use Rattle.std.proofs.Common.{rules, ◌≡◌, ◌<◌, ◌==◌, ℕ, List, Bool, false, length, map, get_or, replicate, cond, ap, ◌∙◌, arith, ltb, w32}
use Rattle.std.proofs.lemmas.{Nat.and_mask, Simd.{bitmask_splat, bit_mask_l, mask_l-lt, length-zip2, get_or-zip2, get_or-replicate}, List.length-map}
use Rattle.{std.proofs.lemmas.List.get_or-map, tally_base.specs.Codes.code_in, lane_decode.specs.Staying.has_bit}
use lib.Lanes.{zip2, mask_l}
use lib.Bits.{bit_and}
use Rattle.lane_decode.proofs.events.bits_below.Goals as goal

abbrev codes : List ℕ → List ℕ
codes marks = zip2 bit_and marks (replicate 8 65535)

module _ (marks : List ℕ) (below : ℕ) (long : length marks ≡ 8) where
  long_codes : length (codes marks) ≡ 8
  long_codes = length-zip2 bit_and marks (replicate 8 65535) long ∙ long

  few_bits : mask_l (map (λ x. ltb x below) (codes marks)) < 256
  few_bits = search (rules, arith, codes, length-map, long_codes, mask_l-lt)

  code_at : (i : ℕ) → i < 8 → get_or (codes marks) i 0 ≡ code_in (get_or marks i 0)
  code_at i lt = get_or-zip2 bit_and marks (replicate 8 65535) i 0 0 0 (omega (arith, long, lt)) lt
      ∙ ap (bit_and (get_or marks i 0)) (get_or-replicate 8 i 65535 0 lt) ∙ and_mask (get_or marks i 0) 16

  is-one : (b : Bool) → (cond b 1 0 == 1) ≡ b
  is-one b = search (rules, arith)

  bit_at : (i : ℕ) → i < 8 → has_bit (mask_l (map (λ x. ltb x below) (codes marks))) i ≡ ltb (code_in (get_or marks i 0)) below
  unfolding has_bit
  bit_at i lt =
      ap (λ n. n == 1) (bit_mask_l (map (λ x. ltb x below) (codes marks)) i) ∙ is-one _
      ∙ get_or-map (λ x. ltb x below) (codes marks) i 0 false (omega (arith, long_codes, lt))
      ∙ ap (λ x. ltb x below) (code_at i lt)

pub returns-clause-few : goal.returns-clause-few
returns-clause-few c =
    let marks = c.args.marks in
    let below = c.from.result in
    rw (bitmask_splat w32 ltb (codes marks) 8 below (long_codes marks below c.requires) (omega arith)) (few_bits marks below c.requires)

pub returns-clause-bits : goal.returns-clause-bits
returns-clause-bits c = λ i lt.
    let marks = c.args.marks in
    let below = c.from.result in
    rw (bitmask_splat w32 ltb (codes marks) 8 below (long_codes marks below c.requires) (omega arith), ← c.from.ensures) (bit_at marks below c.requires i lt)
