use Rattle.std.proofs.Common.{◌≡◌, ◌<◌, ◌^◌, slice_index, length, sym, ap, ◌∙◌, rules, arith, ◌≤◌, ◌/◌, ℕ, List, get_or, replicate, bit_and}
use Rattle.std.proofs.{Math.Nat.pow-le-pow_right, lemmas.{Nat.{div_below, pow_pos, and_le_r}, List.get_or-map, Simd.{zip2_splat, length-zip2}}}
use Rattle.std.specs.Simd.Lanes.{zip2}
use Rattle.lane_decode.proofs.lanes.FieldLanes.of.Goals as goal

-- what a shift and a mask give in each lane

-- an operation on each lane and one number
lane-at : (f : ℕ → ℕ → ℕ) (words : List ℕ) (y place : ℕ) → length words ≡ 8 → place < 8
    → get_or (zip2 f words (replicate 8 y)) place 0 ≡ f (get_or words place 0) y
lane-at f words y place long low =
    ap (λ lanes. get_or lanes place 0) (zip2_splat f words 8 y long) ∙ get_or-map (λ x. f x y) words place 0 0 (omega arith)

-- as the compiler's rules write them
abbrev shifted : List ℕ → ℕ → List ℕ
shifted words shift = zip2 (λ a b. a / 2 ^ b) words (replicate 8 shift)

abbrev masked : List ℕ → ℕ → List ℕ
masked words mask = zip2 bit_and words (replicate 8 mask)

length-shifted : (words : List ℕ) (shift : ℕ) → length words ≡ 8 → length (shifted words shift) ≡ 8
length-shifted words shift long = length-zip2 (λ a b. a / 2 ^ b) words (replicate 8 shift) long ∙ long

shifted-at : (words : List ℕ) (shift place : ℕ) → length words ≡ 8 → place < 8
    → get_or (shifted words shift) place 0 ≡ get_or words place 0 / 2 ^ shift
shifted-at words shift place long low = lane-at (λ a b. a / 2 ^ b) words shift place long low

masked-at : (words : List ℕ) (mask place : ℕ) → length words ≡ 8 → place < 8
    → get_or (masked words mask) place 0 ≡ bit_and (get_or words place 0) mask
masked-at words mask place long low = lane-at bit_and words mask place long low

-- the lanes of a field between others
both-at : (words : List ℕ) (shift mask place : ℕ) → length words ≡ 8 → place < 8
    → get_or (masked (shifted words shift) mask) place 0 ≡ bit_and (get_or words place 0 / 2 ^ shift) mask
both-at words shift mask place long low =
    masked-at (shifted words shift) mask place (length-shifted words shift long) low ∙ ap (λ x. bit_and x mask) (shifted-at words shift place long low)

-- The fields fit.
small-top : (words : List ℕ) (shift place : ℕ) → length words ≡ 8 → place < 8 → get_or words place 0 < 2 ^ 32 → 25 ≤ shift
    → get_or (shifted words shift) place 0 < 2 ^ 8
small-top words shift place long low small high =
    let room : 2 ^ 25 ≤ 2 ^ shift = pow-le-pow_right (omega arith) high in
    rw (shifted-at words shift place long low) (div_below (get_or words place 0) (2 ^ shift) 256 (pow_pos shift) (omega arith))

small-dtime : (words : List ℕ) (shift mask place : ℕ) → length words ≡ 8 → place < 8 → mask ≤ 32767
    → get_or (masked (shifted words shift) mask) place 0 < 2 ^ 16
small-dtime words shift mask place long low high =
    rw (both-at words shift mask place long low) (omega (arith, and_le_r (get_or words place 0 / 2 ^ shift) mask))

pub invariant_of-result-clause-small_tops : goal.invariant_of-result-clause-small_tops
invariant_of-result-clause-small_tops g c place low =
    let small : slice_index c.numbers_of-words.result place < 2 ^ 32 = search rules in
    small-top c.numbers_of-words.result c.TOP_SHIFT.result place (omega arith) low small (rw c.TOP_SHIFT.ensures g.met.R.RecordLayout.top_shift_low)

pub invariant_of-result-clause-small_dtimes : goal.invariant_of-result-clause-small_dtimes
invariant_of-result-clause-small_dtimes g c place low =
    small-dtime c.numbers_of-words.result c.DTIME_SHIFT.result c.DTIME_MASK.result place
    (omega arith) low (rw c.DTIME_MASK.ensures g.met.R.RecordLayout.dtime_mask_high)

pub returns : goal.returns
returns g c place low =
    let words = c.numbers_of-words.result in
    let long : length c.numbers_of-words.result ≡ 8 = omega arith in
    let small : slice_index c.numbers_of-words.result place < 2 ^ 32 = search rules in
    let means = sym (g.met.R.RecordLayout.decode_is_join (slice_index words place) small) in
    rw (shifted-at words c.TOP_SHIFT.result place long low, both-at words c.DTIME_SHIFT.result c.DTIME_MASK.result place long low, masked-at words c.TIME_MASK.result place long low, c.TOP_SHIFT.ensures, c.DTIME_SHIFT.ensures, c.DTIME_MASK.ensures, c.TIME_MASK.ensures) (means ∙ ap (λ numbers. g.R.RecordLayout.meaning (slice_index numbers place)) c.numbers_of-words.ensures)
