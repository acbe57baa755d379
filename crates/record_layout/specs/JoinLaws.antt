-- In each layout a word means what its fields say.
use Rattle.std.{proofs.{Common.{◌≡◌, ◌<◌, ◌^◌, ◌+◌, ◌-◌, ◌/◌, inl, inr, ℕ, Bool, true, false, refl, arith, ◌∙◌, ap}, lemmas.{Nat.and_mask, Bool.{cases_lt, Decides.nat_tests}}}, specs.Prelude.◌==◌}
use Rattle.std.specs.Prelude.{nat_lt, bit_and, if◌then◌else◌}
use Rattle.ptu_definitions.specs.{declared.records.Raw.{Raw, TheVariants.Photon}, Layouts.{bits, pico_t2, pico_t3, hydra_t2, hydra_t3, hydra_t2_special, hydra_t3_special}}
use Rattle.record_layout.specs.{Joins.{fields_in, joined_pico_t2, joined_pico_t3, joined_hydra_t2, joined_hydra_t3}, Rowed.hydra_t2_unit}

-- a shift and a mask take the bits of a field
pub bit_and-shifted : (word low count : ℕ) → bit_and (word / 2 ^ low) (2 ^ count - 1) ≡ bits word low count
bit_and-shifted word low count = and_mask (word / 2 ^ low) count

-- a mask takes the lowest bits
pub bit_and-lowest : (word count : ℕ) → bit_and word (2 ^ count - 1) ≡ bits word 0 count
bit_and-lowest word count = ap (λ n. bit_and n (2 ^ count - 1)) (omega arith) ∙ bit_and-shifted word 0 count

-- the top four bits
top_four : (word : ℕ) → word < 2 ^ 32 → bits word 28 4 ≡ word / 2 ^ 28
top_four word small = omega arith

-- the lowest bits of a field
lowest_of_time : (word : ℕ) → bits (bits word 0 28) 0 4 ≡ bits word 0 4
lowest_of_time word = omega arith

lowest_of_dtime : (word : ℕ) → bits (bits word 16 12) 0 4 ≡ bits word 16 4
lowest_of_dtime word = omega arith

pub pico_t2-is_join : (word : ℕ) → word < 2 ^ 32 → pico_t2 word ≡ joined_pico_t2 (fields_in 28 0 0 (2 ^ 28 - 1) word)
unfolding pico_t2
pico_t2-is_join word small = rw (bit_and-lowest word 28, top_four word small, lowest_of_time word) refl

pub pico_t3-is_join : (word : ℕ) → word < 2 ^ 32 → pico_t3 word ≡ joined_pico_t3 (fields_in 28 16 (2 ^ 12 - 1) (2 ^ 16 - 1) word)
unfolding pico_t3
pico_t3-is_join word small = rw (bit_and-lowest word 16, bit_and-shifted word 16 12, top_four word small, lowest_of_dtime word) refl

-- The top seven bits, as the special bit and the channel.
top_seven : (photon special : ℕ → Raw) (word : ℕ) → word < 2 ^ 32
    → (if bits word 31 1 == 0 then photon (bits word 25 6) else special (bits word 25 6))
    ≡ (if nat_lt (word / 2 ^ 25) 64 then photon (word / 2 ^ 25) else special (word / 2 ^ 25 - 64))
top_seven photon special word small =
    elim (cases_lt (word / 2 ^ 25) 64) [
      | inl low ↦
          let channel : bits word 25 6 ≡ word / 2 ^ 25 = omega arith in
          let bit : bits word 31 1 ≡ 0 = omega arith in
          let test : nat_lt (word / 2 ^ 25) 64 ≡ true = grind (arith, nat_tests) in
          rw (bit, test) (ap photon channel)
      | inr high ↦
          let channel : bits word 25 6 ≡ word / 2 ^ 25 - 64 = omega arith in
          let bit : bits word 31 1 ≡ 1 = omega arith in
          let test : nat_lt (word / 2 ^ 25) 64 ≡ false = grind (arith, nat_tests) in
          rw (bit, test) (ap special channel)
    ]

pub hydra_t2-is_join : (old : Bool) (word : ℕ) → word < 2 ^ 32 → hydra_t2 old word ≡ joined_hydra_t2 old (fields_in 25 0 0 (2 ^ 25 - 1) word)
unfolding hydra_t2
hydra_t2-is_join old word small = rw (bit_and-lowest word 25) (top_seven (λ channel. Photon (channel + 1) (bits word 0 25) 0) (λ channel. hydra_t2_special old channel (bits word 0 25)) word small)

pub hydra_t3-is_join : (old : Bool) (word : ℕ) → word < 2 ^ 32 → hydra_t3 old word ≡ joined_hydra_t3 old (fields_in 25 10 (2 ^ 15 - 1) (2 ^ 10 - 1) word)
unfolding hydra_t3
hydra_t3-is_join old word small = rw (bit_and-lowest word 10, bit_and-shifted word 10 15) (top_seven (λ channel. Photon channel (bits word 0 10) (bits word 10 15)) (λ channel. hydra_t3_special old channel (bits word 0 10)) word small)

pub hydra_t2-unit_small : (old : Bool) → hydra_t2_unit old < 2 ^ 28
hydra_t2-unit_small true = omega arith
hydra_t2-unit_small false = omega arith
