-- The definitions at known photons.
use Rattle.{std.proofs.Common.{◌≡◌, ◌+◌, ◌-◌, ◌^◌, ℕ, [], ◌∷◌, true, false, refl}, tally_base.specs.declared.event.{Event.Event, EventKind.TheVariants.Photon}}
use Rattle.{tally_base.specs.declared.header.Mode.TheVariants.{T2, T3}, record_write.specs.Picked.{wraps, picked_words, is_too_late}}

abbrev photon : ℕ → ℕ → ℕ → Event
photon input time dtime = record { place = 1; kind = Photon input dtime; time = time }

pub rows :
    -- Where no unit has begun there is no wrap, and a wrap has at most one unit less than a unit has ticks.
    (wraps 1023 0 ≡ [])
    × (wraps 1023 1023 ≡ 0xFE0003FF ∷ [])
    × (wraps 1023 2047 ≡ 0xFE0003FF ∷ 0xFE0003FF ∷ 0xFE000001 ∷ [])
    × (picked_words T3 (photon 0 3077 100 ∷ photon 0 4103 0 ∷ []) ≡ 0xFE000003 ∷ 0x00019005 ∷ 0xFE000001 ∷ 0x00000007 ∷ [])
    × (picked_words T2 (photon 1 210698241 0 ∷ []) ≡ 0xFE000006 ∷ 0x008F0001 ∷ [])
    × (picked_words T2 (photon 0 7 0 ∷ photon 64 7 0 ∷ []) ≡ 0x80000007 ∷ 0x7E000007 ∷ [])
    × (is_too_late T2 (2 ^ 62 + 2 ^ 25 - 1) ≡ false)
    × (is_too_late T2 (2 ^ 62 + 2 ^ 25) ≡ true)
    × (is_too_late T3 (2 ^ 62 + 1023) ≡ false)
    × (is_too_late T3 (2 ^ 62 + 1024) ≡ true)
unfolding picked_words
rows = (refl, refl, refl, refl, refl, refl, refl, refl, refl, refl)
