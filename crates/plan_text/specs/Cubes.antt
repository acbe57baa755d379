-- What the tables of cubes say, and the rules on them.
use Rattle.std.specs.Prelude.{ℕ, ◌*◌, ◌^◌, ◌&&◌, Bool, false, nat_le, [], ◌∷◌, codes, Option, None, Some, is_some, if◌then◌else◌}
use Rattle.{toml.specs.Data.{Data, get}, tally_base.specs.Settings.{PartSettings, ImageView, PartSettings.CubeSettings}, toml_rules.specs.{Rules.each, Values.{list_at, has_keys, number_in}}}
use Rattle.plan_text.specs.{Images.image_values, Kind.Kind}

-- the width of a bin and the number of bins of a pixel, where each keeps its rule
abbrev pub bins_of : Option ℕ → Option ℕ → Option (ℕ × ℕ)
bins_of (Some dwidth) (Some dbins) = Some (dwidth, dbins)
bins_of _ _ = None

-- the bins of a cube
unfoldable pub bins : Data → Option (ℕ × ℕ)
bins set = bins_of (number_in 1 32768 (get (codes "dwidth") set)) (number_in 1 32768 (get (codes "dbins") set))

-- it would be an image without its bins, and these keep their rule
unfoldable pub has_cube_values : Data → Data → Bool
has_cube_values d set = is_some (image_values d set) && is_some (bins set)

-- all pixels of an image have few bins together
abbrev pub has_few_bins : ImageView → ℕ → Bool
has_few_bins image dbins = nat_le (image.width * image.height * dbins) (2 ^ 26)

-- the settings of these values, where each keeps its rule
abbrev pub cube_of : Option ImageView → Option (ℕ × ℕ) → Option PartSettings
cube_of (Some image) (Some bins) = if has_few_bins image bins.1 then Some (CubeSettings (record { image = image; dwidth = bins.0; dbins = bins.1 })) else None
cube_of _ _ = None

-- the settings that a table of the document gives
unfoldable pub cube : Data → Data → Option PartSettings
cube d set = cube_of (image_values d set) (bins set)

-- all keys of an image that must be there and those of the bins, and of others only those that an image may have
unfoldable pub has_cube_keys : Data → Bool
has_cube_keys = has_keys (codes "group" ∷ codes "width" ∷ codes "height" ∷ codes "dwell" ∷ codes "line" ∷ codes "dwidth" ∷ codes "dbins" ∷ []) (codes "frame" ∷ codes "stop" ∷ codes "serpentine" ∷ [])

-- cubes in a plan
abbrev pub cube_kind : Kind
cube_kind = record {
  key = codes "cube";
  most = 2;
  before = λ d. each 27 has_cube_keys (list_at (codes "cube") d) ∷ each 28 (has_cube_values d) (list_at (codes "cube") d) ∷ [];
  last = 29;
  read = cube;
  greatest = CubeSettings (record { image = record { group = 1; width = 2048; height = 2048; dwell = 1; line = 1; frame = None; stop = None; serpentine = false }; dwidth = 1; dbins = 16 });
}
