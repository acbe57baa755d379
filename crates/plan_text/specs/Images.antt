-- What the tables of images say, and the rules on them.
use Rattle.std.specs.Prelude.{ℕ, Bool, false, List, [], ◌∷◌, codes, Option, None, Some, option_map, if◌then◌else◌}
use Rattle.{toml.specs.Data.{Data, get}, tally_base.specs.{Settings.{PartSettings, ImageView, PartSettings.ImageSettings}, Limits.wrap_limit}, toml_rules.specs.{Rules.each, Values.list_at}}
use Rattle.{toml_rules.specs.Values.{has_keys, integer_in, number_in, truth_or}, plan_text.specs.{Groups.group_number, Kind.Kind, Version.is_second}}

-- the tables of images
abbrev pub images : Data → List Data
images = list_at (codes "image")

-- the number of a marker bit, of a value that may be left out
abbrev pub bit_in : Option Data → Option (Option ℕ)
bit_in None = Some None
bit_in (Some d) = option_map (λ bit. Some bit) (integer_in 1 4 d)

-- the marker bit at a key: None where it breaks its rule, Some None where there is none
unfoldable pub bit : List ℕ → Data → Option (Option ℕ)
bit key image = bit_in (get key image)

-- the width, the height and the dwell, where each keeps its rule
abbrev pub raster_of : Option ℕ → Option ℕ → Option ℕ → Option (ℕ × (ℕ × ℕ))
raster_of (Some width) (Some height) (Some dwell) = Some (width, (height, dwell))
raster_of _ _ _ = None

-- the width, the height and the dwell of an image
unfoldable pub raster : Data → Option (ℕ × (ℕ × ℕ))
raster image = raster_of (number_in 1 2048 (get (codes "width") image)) (number_in 1 2048 (get (codes "height") image)) (number_in 1 wrap_limit (get (codes "dwell") image))

-- the marker bits of a line, a frame and a stop, where each keeps its rule
abbrev pub bits_of : Option ℕ → Option (Option ℕ) → Option (Option ℕ) → Option (ℕ × (Option ℕ × Option ℕ))
bits_of (Some line) (Some frame) (Some stop) = Some (line, (frame, stop))
bits_of _ _ _ = None

-- the marker bits of an image
unfoldable pub bits : Data → Option (ℕ × (Option ℕ × Option ℕ))
bits image = bits_of (number_in 1 4 (get (codes "line") image)) (bit (codes "frame") image) (bit (codes "stop") image)

-- whether the odd rows of an image run backwards
unfoldable pub serpentine : Data → Option Bool
serpentine image = truth_or false (get (codes "serpentine") image)

-- the settings of these values, where each keeps its rule
abbrev pub image_of : Option ℕ → Option (ℕ × (ℕ × ℕ)) → Option (ℕ × (Option ℕ × Option ℕ)) → Option Bool → Option ImageView
image_of (Some group) (Some raster) (Some bits) (Some serpentine) = Some (record { group = group; width = raster.0; height = raster.1.0; dwell = raster.1.1; line = bits.0; frame = bits.1.0; stop = bits.1.1; serpentine = serpentine })
image_of _ _ _ _ = None

-- the values of an image that a table of the document gives
unfoldable pub image_values : Data → Data → Option ImageView
image_values d set = image_of (group_number d (get (codes "group") set)) (raster set) (bits set) (serpentine set)

-- the settings that a table of the document gives
abbrev pub image : Data → Data → Option PartSettings
image d set = option_map ImageSettings (image_values d set)

-- the keys that an image may have or not, by the version
abbrev pub other_image_keys : Bool → List (List ℕ)
other_image_keys second = codes "frame" ∷ codes "stop" ∷ (if second then codes "serpentine" ∷ [] else [])

-- the keys group, width, height, dwell and line, and no other key but frame, stop and, in version 2, serpentine
unfoldable pub has_image_keys : Data → Data → Bool
has_image_keys d = has_keys (codes "group" ∷ codes "width" ∷ codes "height" ∷ codes "dwell" ∷ codes "line" ∷ []) (other_image_keys (is_second d))

-- images in a plan
abbrev pub image_kind : Kind
image_kind = record {
  key = codes "image";
  most = 8;
  before = λ d. each 19 (has_image_keys d) (images d) ∷ [];
  last = 20;
  read = image;
  greatest = ImageSettings (record { group = 1; width = 2048; height = 2048; dwell = 1; line = 1; frame = None; stop = None; serpentine = false });
}
