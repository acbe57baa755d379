-- The fields of known words, and what they say together.
use Rattle.{std.proofs.Common.{◌≡◌, true, false, refl}, ptu_definitions.specs.declared.records.Raw.TheVariants.{Photon, Marker, Wrap, Reserved}}
use Rattle.record_layout.specs.Joins.{fields_in, joined_pico_t2, joined_pico_t3, joined_hydra_t2, joined_hydra_t3}

pub rows :
    -- a photon of input 1 at sync 21 with dtime 5000
    (fields_in 25 10 0x7FFF 0x3FF 0x024E2015 ≡ record { top = 1; dtime = 5000; time = 21 })
    × (joined_hydra_t3 false (fields_in 25 10 0x7FFF 0x3FF 0x024E2015) ≡ Photon 1 21 5000)
    × (joined_hydra_t3 false (fields_in 25 10 0x7FFF 0x3FF 0xFE000000) ≡ Wrap 1024)
    × (joined_hydra_t2 true (fields_in 25 0 0 0x1FFFFFF 0xFE000005) ≡ Wrap 33552000)
    × (joined_pico_t2 (fields_in 28 0 0 0xFFFFFFF 0xF000100F) ≡ Marker 15 4111)
    × (joined_pico_t3 (fields_in 28 16 0xFFF 0xFFFF 0xF0100000) ≡ Wrap 65536)
    × (joined_pico_t3 (fields_in 28 16 0xFFF 0xFFFF 0x50000000) ≡ Reserved)
rows = (refl, refl, refl, refl, refl, refl, refl)
