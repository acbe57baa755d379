-- How many wraps a word stands for at most.
use Rattle.std.proofs.{Common.{◌≡◌, ◌*◌, ◌^◌, ◌≤◌, ℕ, Bool, true, false, arith}, lemmas.{Grind.common_steps, Bool.Decides.nat_tests}}
use Rattle.{ptu_definitions.specs.{Layouts.{pico_t2, pico_t3, hydra_t2, hydra_t3}, Times.amount}, record_layout.specs.Rowed.hydra_t2_unit}

pub pico_t2-few : (word n : ℕ) → 210698240 * n ≡ amount (pico_t2 word) → n ≤ 2 ^ 25
unfolding pico_t2
pico_t2-few word n = grind (arith, common_steps, nat_tests)

pub pico_t3-few : (word n : ℕ) → 65536 * n ≡ amount (pico_t3 word) → n ≤ 2 ^ 25
unfolding pico_t3
pico_t3-few word n = grind (arith, common_steps, nat_tests)

pub hydra_t2-few : (old : Bool) (word n : ℕ) → hydra_t2_unit old * n ≡ amount (hydra_t2 old word) → n ≤ 2 ^ 25
unfolding hydra_t2
hydra_t2-few true word n = grind (arith, common_steps, nat_tests)
hydra_t2-few false word n = grind (arith, common_steps, nat_tests)

pub hydra_t3-few : (old : Bool) (word n : ℕ) → 1024 * n ≡ amount (hydra_t3 old word) → n ≤ 2 ^ 25
unfolding hydra_t3
hydra_t3-few true word n = grind (arith, common_steps, nat_tests)
hydra_t3-few false word n = grind (arith, common_steps, nat_tests)
