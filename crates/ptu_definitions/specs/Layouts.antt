-- What a record means, after the record layouts of PicoQuant's unified TTTR format. Bit 0 is the lowest of a word.
use Rattle.std.specs.Prelude.{ℕ, ◌+◌, ◌*◌, ◌/◌, ◌%◌, ◌^◌, ◌==◌, nat_le, Bool, true, false, if◌then◌else◌, ◌≡◌, ◌<◌, ◌≤◌}
use Rattle.tally_base.specs.declared.header.RecordType.{RecordType, TheVariants.{PicoHarpT2, PicoHarpT3, HydraHarpT2, HydraHarpT3, HydraHarp2T2, HydraHarp2T3, TimeHarp260NT2, TimeHarp260NT3}}
use Rattle.tally_base.specs.declared.{header.{RecordType.TheVariants.{TimeHarp260PT2, TimeHarp260PT3, MultiHarpT2, MultiHarpT3}, Mode.{Mode, TheVariants.{T2, T3}}}, event.EventKind.EventKind}
use Rattle.{tally_base.specs.declared.event.EventKind.TheVariants.{Photon as PhotonEvent, Marker as MarkerEvent}, ptu_definitions.specs.declared.records.Raw.{Raw, TheVariants.{Photon, Marker, Wrap}}}
use Rattle.ptu_definitions.specs.declared.records.Raw.TheVariants.{Reserved}

-- the `count` bits of a word from bit `low` on
abbrev pub bits : ℕ → ℕ → ℕ → ℕ
bits word low count = word / 2 ^ low % 2 ^ count

-- PicoHarp in T2: the channel in bits 28 to 31, the time in bits 0 to 27. Channel 15 is a wrap or a marker by bits 0 to 3.
abbrev pub pico_t2_special : ℕ → ℕ → Raw
pico_t2_special marker time = if marker == 0 then Wrap 210698240 else Marker marker time

unfoldable pub pico_t2 : ℕ → Raw
pico_t2 word =
    if nat_le (bits word 28 4) 4 then Photon (bits word 28 4) (bits word 0 28) 0
    else if bits word 28 4 == 15 then pico_t2_special (bits word 0 4) (bits word 0 28)
    else Reserved

-- PicoHarp in T3: the channel in bits 28 to 31, the dtime in bits 16 to 27, the sync in bits 0 to 15. Channel 15 is a wrap or a
-- marker by bits 16 to 19.
abbrev pub pico_t3_special : ℕ → ℕ → Raw
pico_t3_special marker sync = if marker == 0 then Wrap 65536 else Marker marker sync

unfoldable pub pico_t3 : ℕ → Raw
pico_t3 word =
    if nat_le (bits word 28 4) 4 then Photon (bits word 28 4) (bits word 0 16) (bits word 16 12)
    else if bits word 28 4 == 15 then pico_t3_special (bits word 16 4) (bits word 0 16)
    else Reserved

-- a number of wraps that one record stands for, where 0 means one
abbrev pub wraps_in : ℕ → ℕ
wraps_in field = if field == 0 then 1 else field

-- HydraHarp and later devices in T2: bit 31 is special, the channel in bits 25 to 30, the time in bits 0 to 24. The older layout has
-- one wrap a record, of another amount.
abbrev pub hydra_t2_wrap : Bool → ℕ → Raw
hydra_t2_wrap true time = Wrap 33552000
hydra_t2_wrap false time = Wrap (33554432 * wraps_in time)

abbrev pub hydra_t2_special : Bool → ℕ → ℕ → Raw
hydra_t2_special old channel time =
    if channel == 0 then Photon 0 time 0
    else if nat_le channel 15 then Marker channel time
    else if channel == 63 then hydra_t2_wrap old time
    else Reserved

unfoldable pub hydra_t2 : Bool → ℕ → Raw
hydra_t2 old word =
    if bits word 31 1 == 0 then Photon (bits word 25 6 + 1) (bits word 0 25) 0
    else hydra_t2_special old (bits word 25 6) (bits word 0 25)

-- HydraHarp and later devices in T3: bit 31 is special, the channel in bits 25 to 30, the dtime in bits 10 to 24, the sync in bits
-- 0 to 9. The older layout has one wrap a record.
abbrev pub hydra_t3_wrap : Bool → ℕ → Raw
hydra_t3_wrap true sync = Wrap 1024
hydra_t3_wrap false sync = Wrap (1024 * wraps_in sync)

abbrev pub hydra_t3_special : Bool → ℕ → ℕ → Raw
hydra_t3_special old channel sync =
    if channel == 0 then Reserved
    else if nat_le channel 15 then Marker channel sync
    else if channel == 63 then hydra_t3_wrap old sync
    else Reserved

unfoldable pub hydra_t3 : Bool → ℕ → Raw
hydra_t3 old word =
    if bits word 31 1 == 0 then Photon (bits word 25 6) (bits word 0 10) (bits word 10 15)
    else hydra_t3_special old (bits word 25 6) (bits word 0 10)

-- what a word means in a file of a record type
abbrev pub meaning_of : RecordType → ℕ → Raw
meaning_of PicoHarpT2 = pico_t2
meaning_of PicoHarpT3 = pico_t3
meaning_of HydraHarpT2 = hydra_t2 true
meaning_of HydraHarpT3 = hydra_t3 true
meaning_of HydraHarp2T2 = hydra_t2 false
meaning_of HydraHarp2T3 = hydra_t3 false
meaning_of TimeHarp260NT2 = hydra_t2 false
meaning_of TimeHarp260NT3 = hydra_t3 false
meaning_of TimeHarp260PT2 = hydra_t2 false
meaning_of TimeHarp260PT3 = hydra_t3 false
meaning_of MultiHarpT2 = hydra_t2 false
meaning_of MultiHarpT3 = hydra_t3 false

-- How large the fields of a record are.

-- an event of a file of this mode
abbrev pub KindFits : Mode → EventKind → Type 0
KindFits T2 (PhotonEvent input dtime) = (input ≤ 64) × (dtime ≡ 0)
KindFits T3 (PhotonEvent input dtime) = (input ≤ 63) × (dtime ≤ 32767)
KindFits mode (MarkerEvent bits) = Unit {0}

-- a record of a file of this mode
abbrev pub Fits : Mode → Raw → Type 0
Fits mode (Photon input time dtime) = (time < 2 ^ 28) × KindFits mode (PhotonEvent input dtime)
Fits mode (Marker bits time) = time < 2 ^ 28
Fits mode (Wrap ticks) = Unit {0}
Fits mode Reserved = Unit {0}
