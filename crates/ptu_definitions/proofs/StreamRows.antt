-- The definitions of streams at known words.
use Rattle.{std.proofs.Common.{◌≡◌, ℕ, [], ◌∷◌, true, false, Some, Ok, Err, refl}, tally_base.specs.declared.event.EventKind.TheVariants.{Photon, Marker}}
use Rattle.tally_base.specs.declared.event.{Order.{Order, TheVariants.{Drop, Stop}}, OnReserved.{OnReserved, TheVariants.{Skip, Stop as StopReserved}}}
use Rattle.tally_base.specs.declared.{fault.Fault.TheVariants.{BackwardTime, RecordLimit, ReservedRecord, TruncatedRecord}, header.RecordType.RecordType}
use Rattle.tally_base.specs.declared.header.RecordType.TheVariants.{PicoHarpT2, PicoHarpT3, HydraHarpT2, HydraHarp2T2, HydraHarp2T3, MultiHarpT3}
use Rattle.ptu_definitions.specs.{declared.records.Raw.TheVariants.Wrap, Layouts.{pico_t2, pico_t3, hydra_t2, hydra_t3}, Times.{events, passes}, Kept.marked}
use Rattle.ptu_definitions.specs.{Kept.kept, Settled.{delivered, delivered_last, in_time, late_by, not_overtaken}, Streams.{StreamSettings, reading, refusal}}
use Rattle.ptu_definitions.specs.Streams.{refusals, record_refusal, given, last_in, summary, streamed}

abbrev how_by : ℕ → RecordType → Order → OnReserved → ℕ → StreamSettings
how_by k record_type order reserved limit = reading record_type (record { order = order; reserved = reserved; records = limit; settle = k })

abbrev how : RecordType → Order → OnReserved → ℕ → StreamSettings
how record_type order reserved limit = how_by 0 record_type order reserved limit

pub rows :
    -- the third event is late
    (given (how HydraHarp2T3 Drop Skip 100) (5 ∷ 9 ∷ 7 ∷ 9 ∷ [])
    ≡ (record { place = 1; kind = Photon 0 0; time = 5 }, false) ∷ (record { place = 2; kind = Photon 0 0; time = 9 }, false) ∷
    (record { place = 3; kind = Photon 0 0; time = 7 }, true) ∷ (record { place = 4; kind = Photon 0 0; time = 9 }, false) ∷ [])
    -- and is refused where late events stop
    × (record_refusal (how HydraHarp2T3 Stop Skip 100) (5 ∷ 9 ∷ 7 ∷ 9 ∷ []) ≡ Some (BackwardTime 3 7 9))
    -- with the events before it given, and neither it nor those after it
    × (given (how HydraHarp2T3 Stop Skip 100) (5 ∷ 9 ∷ 7 ∷ 9 ∷ [])
    ≡ (record { place = 1; kind = Photon 0 0; time = 5 }, false) ∷ (record { place = 2; kind = Photon 0 0; time = 9 }, false) ∷ [])
    -- wraps of zero and of three units
    × (given (how MultiHarpT3 Drop Skip 100) (0xFE000000 ∷ 0xFE000003 ∷ 5 ∷ []) ≡ (record { place = 3; kind = Photon 0 0; time = 4101 }, false) ∷ [])
    -- the field of a wrap is not read in the older layout
    × (given (how HydraHarpT2 Drop Skip 100) (0xFE000005 ∷ 0 ∷ []) ≡ (record { place = 2; kind = Photon 1 0; time = 33552000 }, false) ∷ [])
    × (given (how PicoHarpT3 Drop Skip 100) (0xF0100000 ∷ 0x10070003 ∷ []) ≡ (record { place = 2; kind = Photon 1 7; time = 65539 }, false) ∷ [])
    -- in T2 a photon is not late for a marker before it
    × (given (how PicoHarpT2 Drop Skip 100) (0xF000100F ∷ 0x10001002 ∷ [])
    ≡ (record { place = 1; kind = Marker 15; time = 4111 }, false) ∷ (record { place = 2; kind = Photon 1 0; time = 4098 }, false) ∷ [])
    -- one record more than the limit
    × (record_refusal (how HydraHarp2T3 Drop Skip 3) (5 ∷ 9 ∷ 7 ∷ 9 ∷ []) ≡ Some (RecordLimit 3))
    × (record_refusal (how HydraHarp2T2 Drop StopReserved 100) (0x80000007 ∷ 0xA0000000 ∷ []) ≡ Some (ReservedRecord 2 0xA0000000))
    -- the base may be 2^62 and no more
    × (passes (Wrap 4611686018427387904 ∷ []) (Wrap 1) ≡ true)
    × (passes (Wrap 4611686018427387903 ∷ []) (Wrap 1) ≡ false)
    -- the summary counts the late event, and keeps it from the last time
    × (streamed (how HydraHarp2T3 Drop Skip 100) (5 ∷ 0 ∷ 0 ∷ 0 ∷ 9 ∷ 0 ∷ 0 ∷ 0 ∷ 7 ∷ 0 ∷ 0 ∷ 0 ∷ [])
    ≡ Ok (record { records = 3; photons = 3; markers = 0; wraps = 0; reserved = 0; late = 1; first = Some 5; last = Some 9 }))
    × (streamed (how HydraHarp2T3 Drop Skip 100) (5 ∷ 0 ∷ 0 ∷ 0 ∷ 9 ∷ 9 ∷ []) ≡ Err (TruncatedRecord 2))
    -- where one event may overtake another, the second of these is put before the first, and the third is late
    × (given (how_by 1 HydraHarp2T3 Drop Skip 100) (9 ∷ 8 ∷ 7 ∷ [])
    ≡ (record { place = 2; kind = Photon 0 0; time = 8 }, false) ∷ (record { place = 3; kind = Photon 0 0; time = 7 }, true) ∷ [])
    -- and the first comes at the end
    × (last_in (how_by 1 HydraHarp2T3 Drop Skip 100) (9 ∷ 8 ∷ 7 ∷ []) ≡ (record { place = 1; kind = Photon 0 0; time = 9 }, false) ∷ [])
    -- so the times of the summary are theirs
    × (streamed (how_by 1 HydraHarp2T3 Drop Skip 100) (9 ∷ 0 ∷ 0 ∷ 0 ∷ 8 ∷ 0 ∷ 0 ∷ 0 ∷ 7 ∷ 0 ∷ 0 ∷ 0 ∷ [])
    ≡ Ok (record { records = 3; photons = 3; markers = 0; wraps = 0; reserved = 0; late = 1; first = Some 8; last = Some 9 }))
    -- where late events stop, the late one is refused with the greatest time before it
    × (record_refusal (how_by 1 HydraHarp2T3 Stop Skip 100) (9 ∷ 8 ∷ 7 ∷ []) ≡ Some (BackwardTime 3 7 9))
unfolding given delivered events marked refusal hydra_t3 refusals hydra_t2 pico_t3 pico_t2 streamed summary late_by kept in_time not_overtaken delivered_last
rows = (refl, refl, refl, refl, refl, refl, refl, refl, refl, refl, refl, refl, refl, refl, refl, refl, refl)
