-- Which events are late, and the kept list, where no event is put in its place.
use Rattle.std.specs.{Prelude.{ℕ, ◌&&◌, Bool, nat_lt, max, List, [], ◌∷◌, map, filter, not, if◌then◌else◌}, List.list_any}
use Rattle.{tally_base.specs.{declared.{event.Event.Event, header.Mode.Mode}, Events.is_ordered}, ptu_definitions.specs.Prefixes.each}

-- An ordered event is late where some earlier ordered event has a greater time.
abbrev pub is_late : Mode → List Event → Event → Bool
is_late mode before e = is_ordered mode e && list_any (λ x. is_ordered mode x && nat_lt e.time x.time) before

-- The events, each with whether it is late.
abbrev pub Marked : Type 0
Marked = List (Event × Bool)

-- one event with its mark, where `before` has all events before it
abbrev pub mark : Mode → List Event → Event → Marked
mark mode before e = (e, is_late mode before e) ∷ []

-- all events in order, each with its mark
unfoldable pub marked : Mode → List Event → Marked
marked mode es = each (mark mode) es

-- The kept list: all events that aren't late, in order.
unfoldable pub kept : Mode → List Event → List Event
kept mode es = map (λ x. x.0) (filter (λ x. not x.1) (marked mode es))

-- the time of an ordered event, and 0 of any other
abbrev pub ordered_time : Mode → Event → ℕ
ordered_time mode e = if is_ordered mode e then e.time else 0

-- the greatest time of the ordered events, or 0 where there are none
abbrev pub greatest : Mode → List Event → ℕ
greatest mode [] = 0
greatest mode (e ∷ es) = max (ordered_time mode e) (greatest mode es)

-- the greatest time of the ordered events that aren't marked late, or 0 where there are none
abbrev pub floor_of : Mode → Marked → ℕ
floor_of mode [] = 0
floor_of mode (x ∷ xs) = max (if is_ordered mode x.0 && not x.1 then x.0.time else 0) (floor_of mode xs)
