-- The order of the events that are kept back.
use Rattle.std.specs.{Prelude.{◌≡◌, ◌<◌, ◌≤◌, Bool, true, false, List, [], ◌∷◌}, declared.option.Option.Option, Option.option_to_list, List.AllByRecursion}
use Rattle.{tally_base.specs.declared.event.Event.Event, ptu_definitions.specs.{Kept.Marked, Settled.marked_as}}

-- One event is before another by time, and by place where the times are equal.
pub record Precedes (x y : Event) : Type 0 where
  pub in_time : x.time ≤ y.time
  pub ties : x.time ≡ y.time → x.place < y.place

-- Each event is before all after it.
abbrev pub IsInOrder : List Event → Type 0
IsInOrder [] = Unit {0}
IsInOrder (x ∷ xs) = AllByRecursion (λ y. Precedes x y) xs × IsInOrder xs

-- what a push of an event tells: the event itself where it is late, or else the event emitted, if there is one
abbrev pub told : Event → Bool → Option Event → Marked
told e true emitted = (e, true) ∷ []
told e false emitted = marked_as false (option_to_list emitted)
