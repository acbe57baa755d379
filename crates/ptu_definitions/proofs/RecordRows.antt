-- The meaning of words at known words: the nine words of an example file, and words of each layout.
use Rattle.{std.proofs.Common.{◌≡◌, [], ◌∷◌, refl, Ok, Err, map}, tally_base.specs.declared.header.RecordType.TheVariants.{PicoHarpT2, PicoHarpT3, HydraHarpT2}}
use Rattle.tally_base.specs.declared.{header.RecordType.TheVariants.{HydraHarpT3, HydraHarp2T2, HydraHarp2T3}, fault.Fault.TheVariants.TruncatedRecord}
use Rattle.ptu_definitions.specs.{declared.records.Raw.TheVariants.{Photon, Marker, Wrap, Reserved}, Layouts.{pico_t2, pico_t3, hydra_t2, hydra_t3, meaning_of}}
use Rattle.ptu_definitions.specs.Words.{words_of, rest_of, counted, records_of}

pub rows :
    -- wraps, markers and photons of a HydraHarp2T3 file
    (map (meaning_of HydraHarp2T3) (0xFE000001 ∷ 0x86000006 ∷ 0x00019006 ∷ 0x02032008 ∷ 0x00401014 ∷ 0x024E2015 ∷ 0xFE000000 ∷ 0x88000000 ∷ 0x00019002 ∷ [])
    ≡ Wrap 1024 ∷ Marker 3 6 ∷ Photon 0 6 100 ∷ Photon 1 8 200 ∷ Photon 0 20 4100 ∷ Photon 1 21 5000 ∷ Wrap 1024 ∷ Marker 4 0 ∷ Photon 0 2 100 ∷ [])
    -- a wrap of 0 is one wrap, and a special channel 0 is reserved
    × (map (meaning_of HydraHarp2T3) (0xFE000003 ∷ 0x80000000 ∷ 0x9E000000 ∷ 0xA0000000 ∷ 0xFC000000 ∷ [])
    ≡ Wrap 3072 ∷ Reserved ∷ Marker 15 0 ∷ Reserved ∷ Reserved ∷ [])
    × (map (meaning_of HydraHarpT3) (0x00000000 ∷ 0x80000000 ∷ 0x82000000 ∷ 0x9E000000 ∷ 0xFE000005 ∷ [])
    ≡ Photon 0 0 0 ∷ Reserved ∷ Marker 1 0 ∷ Marker 15 0 ∷ Wrap 1024 ∷ [])
    × (map (meaning_of HydraHarpT2) (0x00000000 ∷ 0x80000000 ∷ 0x82000000 ∷ 0xA0000000 ∷ 0xFE000005 ∷ [])
    ≡ Photon 1 0 0 ∷ Photon 0 0 0 ∷ Marker 1 0 ∷ Reserved ∷ Wrap 33552000 ∷ [])
    × (map (meaning_of HydraHarp2T2) (0x80000007 ∷ 0xA0000000 ∷ 0xFFFFFFFF ∷ 0xFE000000 ∷ [])
    ≡ Photon 0 7 0 ∷ Reserved ∷ Wrap 1125899873288192 ∷ Wrap 33554432 ∷ [])
    × (map (meaning_of PicoHarpT2) (0x00000000 ∷ 0x50000000 ∷ 0xF0000000 ∷ 0xF0000001 ∷ 0xF000100F ∷ 0x10001002 ∷ [])
    ≡ Photon 0 0 0 ∷ Reserved ∷ Wrap 210698240 ∷ Marker 1 1 ∷ Marker 15 4111 ∷ Photon 1 4098 0 ∷ [])
    -- the dtime 16 has the low four bits 0, so its record is a wrap
    × (map (meaning_of PicoHarpT3) (0x00000000 ∷ 0xE0000000 ∷ 0xF0100000 ∷ 0xF0110000 ∷ 0x10070003 ∷ [])
    ≡ Photon 0 0 0 ∷ Reserved ∷ Wrap 65536 ∷ Marker 1 0 ∷ Photon 1 3 7 ∷ [])
    × (words_of (1 ∷ 0 ∷ 0 ∷ 0xFE ∷ 6 ∷ 0 ∷ 0 ∷ 0x86 ∷ 7 ∷ []) ≡ 0xFE000001 ∷ 0x86000006 ∷ [])
    × (rest_of (1 ∷ 0 ∷ 0 ∷ 0xFE ∷ 6 ∷ 7 ∷ 8 ∷ []) ≡ 6 ∷ 7 ∷ 8 ∷ [])
    × (counted HydraHarp2T3 (1 ∷ 0 ∷ 0 ∷ 0xFE ∷ 6 ∷ 0 ∷ 0 ∷ 0x86 ∷ 7 ∷ 0 ∷ 0 ∷ 0 ∷ [])
    ≡ Ok (record { records = 3; photons = 1; markers = 1; wraps = 1; reserved = 0 }))
    × (counted HydraHarp2T3 (1 ∷ 0 ∷ 0 ∷ 0 ∷ 9 ∷ 9 ∷ []) ≡ Err (TruncatedRecord 2))
unfolding hydra_t3 hydra_t2 pico_t2 pico_t3 counted records_of
rows = (refl, refl, refl, refl, refl, refl, refl, refl, refl, refl, refl)
