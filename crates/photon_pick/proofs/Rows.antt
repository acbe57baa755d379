-- The definitions at known photons.
use Rattle.{std.proofs.Common.{◌≡◌, ◌+◌, ◌^◌, ℕ, Bool, List, [], ◌∷◌, ◌++◌, Some, None, refl}, tally_base.specs.declared.event.Event.Event}
use Rattle.tally_base.specs.declared.event.{EventKind.TheVariants.Photon, Order.TheVariants.Drop, OnReserved.TheVariants.Skip}
use Rattle.tally_base.specs.declared.{fault.Fault.TheVariants.{PickTime, TruncatedRecord}, header.{Mode.TheVariants.{T2, T3}, RecordType.RecordType}}
use Rattle.{tally_base.specs.declared.header.RecordType.TheVariants.{PicoHarpT2, HydraHarp2T2, HydraHarp2T3}, ptu_definitions.specs.Kept.{marked, kept}}
use Rattle.ptu_definitions.specs.{Layouts.{pico_t2, hydra_t2, hydra_t3}, Settled.delivered, Streams.{StreamSettings, reading, refusal, refusals, given}}
use Rattle.{ptu_definitions.specs.{Streams.streamed, Times.events, Prefixes.first}, minimal_file.specs.ShortFiles.bytes_in}
use Rattle.{record_write.specs.Picked.picked_words, photon_pick.specs.{Chosen.is_chosen, Ends.{end_text, end_fault}, Late.{too_late, writable}, Texts.late_or}}

abbrev photon : ℕ → ℕ → Event
photon place time = record { place = place; kind = Photon 1 0; time = time }

abbrev lenient : RecordType → StreamSettings
lenient record_type = reading record_type (record { order = Drop; reserved = Skip; records = 100; settle = 0 })

-- the group 1 of these inputs, where bit n is set for the input n
abbrev group_of : ℕ → Event → Bool
group_of inputs = is_chosen (record { period = 1; shifts = []; groups = record { inputs = inputs; gates = [] } ∷ [] }) 1

abbrev of_words : List ℕ → List ℕ
of_words words = bytes_in words

pub rows :
    -- The first that is too late ends what is written, and is named, also where a photon after it could be written.
    (writable T2 (photon 4 7 ∷ photon 9 (2 ^ 62 + 2 ^ 25) ∷ photon 11 (2 ^ 62) ∷ []) ≡ photon 4 7 ∷ [])
    × (late_or (first (too_late T2 (photon 4 7 ∷ photon 9 (2 ^ 62 + 2 ^ 25) ∷ photon 11 (2 ^ 62 + 2 ^ 26) ∷ []))) (Some (TruncatedRecord 1))
    ≡ Some (PickTime 9))
    × (late_or (first (too_late T3 (photon 4 7 ∷ photon 9 (2 ^ 62 + 1023) ∷ []))) None ≡ None)
    -- Of a T3 file the photons of input 0 keep their dtimes.
    × (end_text (group_of 1) (lenient HydraHarp2T3) (of_words (0xFE000003 ∷ 0x00019005 ∷ 0x02000006 ∷ 0xFE000001 ∷ 0x00000007 ∷ []))
    ≡ of_words (0xFE000003 ∷ 0x00019005 ∷ 0xFE000001 ∷ 0x00000007 ∷ []))
    -- A wrap of an older device is another number of units here.
    × (end_text (group_of 2) (lenient PicoHarpT2) (of_words (0xF0000000 ∷ 0x10000001 ∷ [])) ≡ of_words (0xFE000006 ∷ 0x008F0001 ∷ []))
    -- A photon of another input is left out.
    × (end_text (group_of 1) (lenient HydraHarp2T2) (of_words (0x80000007 ∷ 0x00000009 ∷ [])) ≡ of_words (0x80000007 ∷ []))
    -- Bytes that are left over are refused, and the photons before them written.
    × (end_fault (group_of 1) (lenient HydraHarp2T2) (of_words (0x80000007 ∷ []) ++ 5 ∷ []) ≡ Some (TruncatedRecord 1))
unfolding picked_words streamed refusals refusal events kept marked hydra_t3 pico_t2 hydra_t2 given delivered
rows = (refl, refl, refl, refl, refl, refl, refl)
