-- The words of one photon.
use Rattle.std.specs.Prelude.{ℕ, List, [], ◌∷◌, ◌++◌, if◌then◌else◌}
use Rattle.ptu_made.specs.declared.photon_words.PhotonWords.{PhotonWords}

abbrev pub words_of_photon : PhotonWords → List ℕ
words_of_photon photon = (if photon.wraps then 0xFE000001 ∷ [] else []) ++ photon.word ∷ []
