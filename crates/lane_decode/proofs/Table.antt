-- The table of the places of bits.
use Rattle.std.proofs.Common.{◌≡◌, ◌+◌, ◌-◌, ◌<◌, ◌≤◌, ◌++◌, [], ◌∷◌, ℕ, suc, List, true, false, length, map, take, get_or, replicate, refl, ap, ◌∙◌, arith}
use Rattle.std.{proofs.{Common.{rules, w32}, lemmas.{List.FromFn.get_or-map-range_with_len, Simd.swz_l}}, specs.List.range_with_len}
use Rattle.lane_decode.{specs.{Staying.{has_bit, bits_in, lanes_in}, declared.events.TheConstants.LANES}, proofs.Chosen.{each, at-stayed}}
use lib.ListN.{get_or-append}
use lib.Lanes.{all_below}

-- the table has the lanes of each number
table_is : LANES ≡ map lanes_in (range_with_len 0 256)
unfolding bits_in has_bit
table_is = refl

pub row_is : (bits : ℕ) → bits < 256 → get_or LANES bits [] ≡ lanes_in bits
row_is bits lt = ap (λ t. get_or t bits []) table_is ∙ get_or-map-range_with_len lanes_in 0 256 bits bits [] lt (omega arith)

-- there are eight places, each below 8
places_are : map (λ m. length (lanes_in m)) (range_with_len 0 256) ≡ replicate 256 8
unfolding bits_in has_bit
places_are = refl

places_below : map (λ m. all_below 8 (lanes_in m)) (range_with_len 0 256) ≡ replicate 256 true
unfolding bits_in has_bit
places_below = refl

-- the lanes at some places
lanes-taken : (xs ks zs : List ℕ) (i : ℕ) → i + length ks ≤ 8 → take (length ks) (swz_l w32 8 xs i (ks ++ zs)) ≡ map (λ j. get_or xs j 0) ks
lanes-taken xs [] zs i le = refl
lanes-taken xs (k ∷ ks) zs i le = search (rules, arith, lanes-taken xs ks zs (suc i) (omega (arith, le)))

module _ (bits : ℕ) (lt : bits < 256) where
  pub lanes-below : all_below 8 (lanes_in bits) ≡ true
  lanes-below = each (λ m. all_below 8 (lanes_in m)) true false places_below bits lt

  pub lanes-long : length (lanes_in bits) ≡ 8
  lanes-long = each (λ m. length (lanes_in m)) 8 0 places_are bits lt

pub close-at : (xs : List ℕ) (bits j : ℕ) → length (bits_in bits) ≤ 8 → j < length (bits_in bits) → get_or (swz_l w32 8 xs 0 (lanes_in bits)) j 0 ≡ get_or xs (get_or (bits_in bits) j 0) 0
close-at xs bits j few lt =
    at-stayed (λ i. get_or xs i 0) (swz_l w32 8 xs 0 (lanes_in bits)) (bits_in bits) (length (bits_in bits)) j (lanes-taken xs (bits_in bits) (replicate (8 - length (bits_in bits)) 0) 0 (omega (arith, few))) lt lt

pub lane-at : (bits j : ℕ) → j < length (bits_in bits) → get_or (lanes_in bits) j 0 ≡ get_or (bits_in bits) j 0
lane-at bits j lt = get_or-append (bits_in bits) (replicate (8 - length (bits_in bits)) 0) 0 j lt
