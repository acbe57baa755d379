use Rattle.std.proofs.Common.{rules, ◌≡◌, ◌*◌, ◌-◌, ◌%◌, ◌^◌, ◌<◌, ◌≤◌, ◌==◌, ℕ, zero, suc, List, Bool, false, length, map, get_or, replicate, cond, ap, ◌∙◌}
use Rattle.std.proofs.{Common.{arith, eqb, w64}, Math.Nat.mod-eq_of_lt, lemmas.{Nat.{pow_below, pow_pos, Bits.{and_pow, bit_at-lt}}, Simd.bitmask_splat}}
use Rattle.std.{proofs.lemmas.{Simd.{bit_mask_l, mask_l-lt, length-zip2, get_or-zip2, get_or-replicate}, List.{length-map, get_or-map}}, specs.Int.bit_at}
use Rattle.{tally_base.specs.Events.is_in, lane_decode.specs.Staying.has_bit}
use lib.Lanes.{zip2, mask_l}
use lib.Bits.{bit_and}
use Rattle.tcspc_hist.proofs.picking.bits_in_group.Goals as goal

-- a bit that is set where it stands
tests : (a p : ℕ) → a < 2 → 0 < p → eqb (a * p) p ≡ (a == 1)
tests zero p lt some = let none : 0 * p ≡ 0 = omega arith in rw none (search (rules, arith))
tests (suc zero) p lt some = let one : 1 * p ≡ p = omega arith in rw one (search (rules, arith))
tests (suc (suc a)) p lt some = absurd (omega (arith, lt))

module _ (groups : List ℕ) (group : ℕ) (long : length groups ≡ 8) (some : 0 < group) (few : group ≤ 64) where
  abbrev bit : ℕ
  bit = 1 * 2 ^ (group - 1) % 2 ^ 64

  abbrev own : List ℕ
  own = zip2 bit_and groups (replicate 8 bit)

  long_own : length own ≡ 8
  long_own = length-zip2 bit_and groups (replicate 8 bit) long ∙ long

  bit_is : bit ≡ 2 ^ (group - 1)
  bit_is =
      let below : 2 ^ (group - 1) < 2 ^ 64 = pow_below (group - 1) 64 (omega (arith, some, few)) in
      mod-eq_of_lt {m = 2 ^ 64} (omega (arith, below)) ∙ omega arith

  bits_few : mask_l (map (λ x. eqb x bit) own) < 256
  bits_few = search (rules, arith, own, length-map, long_own, mask_l-lt)

  own_at : (i : ℕ) → i < 8 → get_or own i 0 ≡ bit_at (get_or groups i 0) (group - 1) * 2 ^ (group - 1)
  own_at i lt = get_or-zip2 bit_and groups (replicate 8 bit) i 0 0 0 (omega (arith, long, lt)) lt
      ∙ ap (bit_and (get_or groups i 0)) (get_or-replicate 8 i bit 0 lt ∙ bit_is) ∙ and_pow (get_or groups i 0) (group - 1)

  is-one : (b : Bool) → (cond b 1 0 == 1) ≡ b
  is-one b = search (rules, arith)

  bits_are : (i : ℕ) → i < 8 → has_bit (mask_l (map (λ x. eqb x bit) own)) i ≡ is_in (get_or groups i 0) group
  unfolding has_bit
  bits_are i lt =
      ap (λ n. n == 1) (bit_mask_l (map (λ x. eqb x bit) own) i) ∙ is-one _
      ∙ get_or-map (λ x. eqb x bit) own i 0 false (omega (arith, long_own, lt))
      ∙ ap (λ x. eqb x bit) (own_at i lt) ∙ ap (eqb (bit_at (get_or groups i 0) (group - 1) * 2 ^ (group - 1))) bit_is
      ∙ tests (bit_at (get_or groups i 0) (group - 1)) (2 ^ (group - 1)) (bit_at-lt (get_or groups i 0) (group - 1)) (pow_pos (group - 1))

pub returns-clause-few : goal.returns-clause-few
returns-clause-few c =
    let g = c.requires.group in
    rw (bitmask_splat w64 (λ a b. eqb a b) (own c.args.groups c.args.group c.requires.lanes g.0 g.1) 8 (bit c.args.groups c.args.group c.requires.lanes g.0 g.1) (long_own c.args.groups c.args.group c.requires.lanes g.0 g.1) (omega arith)) (bits_few c.args.groups c.args.group c.requires.lanes g.0 g.1)

pub returns-clause-bits : goal.returns-clause-bits
returns-clause-bits c = λ i lt.
    let g = c.requires.group in
    rw (bitmask_splat w64 (λ a b. eqb a b) (own c.args.groups c.args.group c.requires.lanes g.0 g.1) 8 (bit c.args.groups c.args.group c.requires.lanes g.0 g.1) (long_own c.args.groups c.args.group c.requires.lanes g.0 g.1) (omega arith)) (bits_are c.args.groups c.args.group c.requires.lanes g.0 g.1 i lt)
