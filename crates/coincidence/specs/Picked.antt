-- The rows of a block that have photons.
use Rattle.std.specs.Prelude.{◌≡◌, ℕ, ◌+◌, ◌<◌, ◌≤◌, Bool, true, false, ◌||◌, List, [], ◌∷◌}
use Rattle.{tally_base.specs.{Settings.CoincidenceView, declared.block.Block.Block}, coincidence.specs.Lone.has_photon}

module _ (set : CoincidenceView) {N : ℕ} (b : Block N) where
  -- the row has a photon of either group
  abbrev pub has_either : ℕ → Bool
  has_either at = has_photon b at set.first || has_photon b at set.second

  -- no row from one on and before another has one
  abbrev pub HaveNone : ℕ → ℕ → Type 0
  HaveNone from upto = (i : ℕ) → from ≤ i → i < upto → has_either i ≡ false

  -- these are the rows from one on and before another that have one
  abbrev pub ArePicked : List ℕ → ℕ → ℕ → Type 0
  ArePicked [] from upto = HaveNone from upto
  ArePicked (at ∷ rest) from upto = (from ≤ at) × (at < upto) × (has_either at ≡ true) × HaveNone from at × ArePicked rest (at + 1) upto
