-- The parts of a record say what its fields say.
use Rattle.{std.proofs.{Common.{◌≡◌, ℕ, Bool, true, false, arith}, lemmas.{Grind.common_steps, Bool.Decides.nat_tests}}, ptu_definitions.specs.Layouts.bits}
use Rattle.record_layout.specs.{Rowed.{raw_of, hydra_t2_code, hydra_t3_code, hydra_t2_unit, hydra_wraps, pico_code, pico_wraps}, Joins.joined_pico_t2}
use Rattle.record_layout.specs.Joins.{joined_pico_t3, joined_hydra_t2, joined_hydra_t3}

old-t2 : (top time dtime : ℕ) → raw_of (hydra_t2_unit true) (record { code = hydra_t2_code top; time = time; dtime = 0; wraps = hydra_wraps true top time })
    ≡ joined_hydra_t2 true (record { top = top; dtime = dtime; time = time })
old-t2 top time dtime = grind (arith, common_steps, nat_tests)

new-t2 : (top time dtime : ℕ) → raw_of (hydra_t2_unit false) (record { code = hydra_t2_code top; time = time; dtime = 0; wraps = hydra_wraps false top time })
    ≡ joined_hydra_t2 false (record { top = top; dtime = dtime; time = time })
new-t2 top time dtime = grind (arith, common_steps, nat_tests)

pub row-hydra_t2 : (old : Bool) (top time dtime : ℕ)
    → raw_of (hydra_t2_unit old) (record { code = hydra_t2_code top; time = time; dtime = 0; wraps = hydra_wraps old top time })
    ≡ joined_hydra_t2 old (record { top = top; dtime = dtime; time = time })
row-hydra_t2 true top time dtime = old-t2 top time dtime
row-hydra_t2 false top time dtime = new-t2 top time dtime

old-t3 : (top time dtime : ℕ) → raw_of 1024 (record { code = hydra_t3_code top; time = time; dtime = dtime; wraps = hydra_wraps true top time })
    ≡ joined_hydra_t3 true (record { top = top; dtime = dtime; time = time })
old-t3 top time dtime = grind (arith, common_steps, nat_tests)

new-t3 : (top time dtime : ℕ) → raw_of 1024 (record { code = hydra_t3_code top; time = time; dtime = dtime; wraps = hydra_wraps false top time })
    ≡ joined_hydra_t3 false (record { top = top; dtime = dtime; time = time })
new-t3 top time dtime = grind (arith, common_steps, nat_tests)

pub row-hydra_t3 : (old : Bool) (top time dtime : ℕ)
    → raw_of 1024 (record { code = hydra_t3_code top; time = time; dtime = dtime; wraps = hydra_wraps old top time })
    ≡ joined_hydra_t3 old (record { top = top; dtime = dtime; time = time })
row-hydra_t3 true top time dtime = old-t3 top time dtime
row-hydra_t3 false top time dtime = new-t3 top time dtime

pub row-pico_t2 : (top time dtime marker : ℕ) → marker ≡ bits time 0 4
    → raw_of 210698240 (record { code = pico_code top marker; time = time; dtime = 0; wraps = pico_wraps top marker })
    ≡ joined_pico_t2 (record { top = top; dtime = dtime; time = time })
row-pico_t2 top time dtime marker is = grind (arith, common_steps, nat_tests)

pub row-pico_t3 : (top time dtime marker : ℕ) → marker ≡ bits dtime 0 4
    → raw_of 65536 (record { code = pico_code top marker; time = time; dtime = dtime; wraps = pico_wraps top marker })
    ≡ joined_pico_t3 (record { top = top; dtime = dtime; time = time })
row-pico_t3 top time dtime marker is = grind (arith, common_steps, nat_tests)
