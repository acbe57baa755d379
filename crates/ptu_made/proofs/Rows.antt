-- The definitions at known seeds.
use Rattle.{std.proofs.Common.{◌≡◌, [], ◌∷◌, ◌++◌, replicate, refl, codes}, ptu_made.specs.Generator.{next_state, states, gap, channel, drawn, photon_words}}
use Rattle.{ptu_made.specs.{Generator.made_words, Records.{made_photons, made_file}}, tally_base.specs.declared.event.EventKind.TheVariants.Photon}
use Rattle.minimal_file.specs.ShortFiles.{short_header, minimal_file}

pub rows :
    (next_state 0 ≡ 0x14057B7EF767814F)
    × (drawn 0x14057B7EF767814F ≡ 0x0A02BDBF)
    × (gap 0x14057B7EF767814F ≡ 447)
    × (channel 0x14057B7EF767814F ≡ 0)
    × (made_words 0 1 ≡ 0x000001BF ∷ [])
    × (made_words 1 4 ≡ 0x020001D6 ∷ 0x0200032F ∷ 0x000003FB ∷ 0x020004E1 ∷ [])
    -- a new unit begins
    × (photon_words 0x3FFFFD5 0x4000135 1 ≡ 0xFE000001 ∷ 0x02000135 ∷ [])
    × (photon_words 0x3FFFF00 0x3FFFFD5 1 ≡ 0x03FFFFD5 ∷ [])
    × (made_file 0 1 ≡ codes "PQTTTR" ++ 0 ∷ 0 ∷ (codes "1.0.00" ++ 0 ∷ 0 ∷ (codes "TTResultFormat_TTTRRecType"
    ++ 0 ∷ 0 ∷ 0 ∷ 0 ∷ 0 ∷ 0 ∷ 255 ∷ 255 ∷ 255 ∷ 255 ∷ 8 ∷ 0 ∷ 0 ∷ 16 ∷ 4 ∷ 2 ∷ 1 ∷ 1 ∷ 0 ∷ 0 ∷ 0 ∷ 0 ∷ (codes "Header_End"
    ++ replicate 22 0 ++ (255 ∷ 255 ∷ 255 ∷ 255 ∷ 8 ∷ 0 ∷ 255 ∷ 255 ∷ 0 ∷ 0 ∷ 0 ∷ 0 ∷ 0 ∷ 0 ∷ 0 ∷ 0 ∷ 0xBF ∷ 1 ∷ 0 ∷ 0 ∷ [])))))
    × (made_photons 1 2 ≡ record { kind = Photon 2 0; time = 470 } ∷ record { kind = Photon 2 0; time = 815 } ∷ [])
unfolding made_words states made_file minimal_file short_header made_photons
rows = (refl, refl, refl, refl, refl, refl, refl, refl, refl, refl)
