-- What a contract sees of the settings of a plan: their numbers alone, so that definitions can make them.
use Rattle.std.specs.{Prelude.{ℕ, ◌+◌, ◌-◌, ◌*◌, ◌/◌, ◌^◌, Bool, true, false, List, length, ◌<◌}, declared.option.Option.Option}
use Rattle.tally_base.specs.declared.settings.{Group.Group, ShiftSet.ShiftSet, HistSet.HistSet, TraceSet.TraceSet, StartStopSet.StartStopSet, CoincidenceSet.CoincidenceSet, ImageSet.ImageSet}
use Rattle.tally_base.specs.declared.{settings.{CubeSet.CubeSet, FoldSet.FoldSet, CorrelationSet.CorrelationSet}, divisor.Divisor.Divisor}

pub record GroupView : Type 0 where
  -- bit n is set for the input n
  pub inputs : ℕ
  -- of each gate the first dtime, and the first after it
  pub gates : List (ℕ × ℕ)

pub record ShiftView : Type 0 where
  pub input : ℕ
  -- how many ticks are added to its dtimes
  pub shift : ℕ

pub record HistView : Type 0 where
  pub group : ℕ
  pub width : ℕ
  pub bins : ℕ

pub record TraceView : Type 0 where
  pub group : ℕ
  pub origin : ℕ
  pub width : ℕ
  pub bins : ℕ

pub record StartStopView : Type 0 where
  pub start : ℕ
  pub stop : ℕ
  pub width : ℕ
  pub bins : ℕ

pub record CoincidenceView : Type 0 where
  pub first : ℕ
  pub second : ℕ
  pub reach : ℕ
  pub width : ℕ

pub record ImageView : Type 0 where
  pub group : ℕ
  pub width : ℕ
  pub height : ℕ
  pub dwell : ℕ
  -- the numbers of the marker bits
  pub line : ℕ
  pub frame : Option ℕ
  pub stop : Option ℕ
  -- whether the odd rows are run through backwards
  pub serpentine : Bool

pub record CubeView : Type 0 where
  pub image : ImageView
  -- how many ticks of the dtime a bin has, and how many bins a pixel
  pub dwidth : ℕ
  pub dbins : ℕ

pub record FoldView : Type 0 where
  pub groups : List ℕ
  -- how many ticks after its first the last tick of a window is
  pub window : ℕ

pub record CorrelationView : Type 0 where
  pub first : ℕ
  pub second : ℕ
  pub lags : ℕ
  pub levels : ℕ

abbrev pub group_view : Group → GroupView
group_view group = record { inputs = group.inputs; gates = group.gates.items }

abbrev pub shift_view : ShiftSet → ShiftView
shift_view set = record { input = set.input; shift = set.shift }

abbrev pub hist_view : HistSet → HistView
hist_view set = record { group = set.group; width = set.width; bins = set.bins }

abbrev pub trace_view : TraceSet → TraceView
trace_view set = record { group = set.group; origin = set.origin; width = set.width; bins = set.bins }

abbrev pub startstop_view : StartStopSet → StartStopView
startstop_view set = record { start = set.start; stop = set.stop; width = set.width; bins = set.bins }

abbrev pub coincidence_view : CoincidenceSet → CoincidenceView
coincidence_view set = record { first = set.first; second = set.second; reach = set.reach; width = set.width }

abbrev pub image_view : ImageSet → ImageView
image_view set = record { group = set.group; width = set.width; height = set.height; dwell = set.dwell; line = set.line; frame = set.frame; stop = set.stop; serpentine = set.serpentine }

abbrev pub cube_view : CubeSet → CubeView
cube_view set = record { image = image_view set.image; dwidth = set.dwidth; dbins = set.dbins }

abbrev pub fold_view : FoldSet → FoldView
fold_view set = record { groups = set.groups.items; window = set.window }

abbrev pub correlation_view : CorrelationSet → CorrelationView
correlation_view set = record { first = set.first; second = set.second; lags = set.lags; levels = set.levels }

-- the settings of a table of any kind
pub data PartSettings : Type 0 where
  HistSettings : (set : HistView) → PartSettings
  TraceSettings : (set : TraceView) → PartSettings
  StartStopSettings : (set : StartStopView) → PartSettings
  CoincidenceSettings : (set : CoincidenceView) → PartSettings
  ImageSettings : (set : ImageView) → PartSettings
  CorrelationSettings : (set : CorrelationView) → PartSettings
  CubeSettings : (set : CubeView) → PartSettings
  FoldSettings : (set : FoldView) → PartSettings

-- how many cells the differences from - reach to reach take
abbrev pub coincidence_cells : CoincidenceView → ℕ
coincidence_cells set = (2 * set.reach) / set.width + 1

-- The bound of a table: how many entries it keeps at most, cells, rest counts, ring entries and open bins.
abbrev pub entries : PartSettings → ℕ
entries (HistSettings set) = set.bins + 1
entries (TraceSettings set) = set.bins + 3
entries (StartStopSettings set) = set.bins + 2
entries (CoincidenceSettings set) = coincidence_cells set + set.reach + 2
entries (ImageSettings set) = set.width * set.height + 4
entries (CorrelationSettings set) = set.levels * (set.lags + 1) + set.lags + (set.levels - 1) * (set.lags / 2)
entries (CubeSettings set) = set.image.width * set.image.height * set.dbins + 5
entries (FoldSettings set) = 2 ^ length set.groups + set.window + 2

-- whether the times of markers may not fall in it either
abbrev pub is_strict : PartSettings → Bool
is_strict (ImageSettings set) = true
is_strict (CubeSettings set) = true
is_strict _ = false

-- What a divisor divides by.

abbrev pub divisor_of : Divisor → ℕ
divisor_of d = d.by

-- a number whose quotient is a product
abbrev pub IsShort : Divisor → ℕ → Type 0
IsShort d number = number < d.share
