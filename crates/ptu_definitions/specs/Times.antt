-- The absolute times of records.
use Rattle.std.specs.Prelude.{ℕ, ◌+◌, ◌&&◌, Bool, nat_lt, List, [], ◌∷◌, length, sum_by}
use Rattle.{tally_base.specs.{declared.event.{Event.Event, EventKind.TheVariants.{Photon as PhotonEvent, Marker as MarkerEvent}}, Limits.wrap_limit}, ptu_definitions.specs.declared.records.Raw.Raw}
use Rattle.ptu_definitions.specs.{declared.records.Raw.TheVariants.{Photon, Marker, Wrap, Reserved}, Kinds.is_wrap, Prefixes.each}

-- how much later the times after a record are
abbrev pub amount : Raw → ℕ
amount (Photon input time dtime) = 0
amount (Marker bits time) = 0
amount (Wrap ticks) = ticks
amount Reserved = 0

-- The base of a record: the sum of the wraps of all records before it.
abbrev pub base : List Raw → ℕ
base before = sum_by amount before

-- the event of a record of this number at this base, if it is one
abbrev pub event_of : ℕ → ℕ → Raw → List Event
event_of place base (Photon input time dtime) = record { place = place; kind = PhotonEvent input dtime; time = base + time } ∷ []
event_of place base (Marker bits time) = record { place = place; kind = MarkerEvent bits; time = base + time } ∷ []
event_of place base (Wrap ticks) = []
event_of place base Reserved = []

-- the event of the record after these
abbrev pub event_after : List Raw → Raw → List Event
event_after before raw = event_of (length before + 1) (base before) raw

-- The events of a list of records, in order.
unfoldable pub events : List Raw → List Event
events records = each event_after records

-- The record after these is a wrap that makes the base greater than 2^62 (`wrap_limit`).
abbrev pub passes : List Raw → Raw → Bool
passes before raw = is_wrap raw && nat_lt wrap_limit (base before + amount raw)
