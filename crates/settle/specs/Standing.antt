-- What a value that settles events stands for.
use Rattle.std.specs.{Prelude.{ℕ, ◌+◌, ◌≡◌, ◌<◌, ◌++◌, Bool, false, None, Some, List}, declared.option.Option.Option, List.AllByRecursion}
use Rattle.{tally_base.specs.declared.event.Event.Event, ptu_definitions.specs.Settled.{in_time, IsOpen}, settle.specs.{Settling.IsInOrder, declared.settle.Settle.Settle}}

-- how many events it keeps back at most
abbrev pub reach_of : Settle → ℕ
reach_of s = s.reach

-- the events that it keeps back, which are its one list, in order of time and then of place
abbrev pub kept_back : Settle → List Event
kept_back s = s.waiting.items

-- the time of the last event emitted, or 0 where there is none
abbrev pub last_time : Settle → ℕ
last_time s = s.last

abbrev pub next_behind : Option ℕ → ℕ
next_behind None = 0
next_behind (Some place) = place + 1

-- the least place that the next event may have: any where there was none, and else one after the last
abbrev pub next_place : Settle → ℕ
next_place s = next_behind s.place

abbrev pub was_popped : Settle → Bool
was_popped s = s.popped

-- The events emitted or popped and those kept back, which are in order, make up the kept list of those pushed.
pub record IsSettled (k : ℕ) (popped : Bool) (waiting : List Event) (last next : ℕ) (pushed given : List Event) : Type 0 where
  pub joined : given ++ waiting ≡ in_time k pushed
  pub in_order : IsInOrder waiting
  pub places : AllByRecursion (λ x. x.place < next) waiting
  pub unpopped : popped ≡ false → IsOpen k pushed given waiting last

-- These events were pushed, and these were emitted or popped.
abbrev pub HasSettled : Settle → List Event → List Event → Type 0
HasSettled s pushed given = IsSettled s.reach s.popped s.waiting.items s.last (next_place s) pushed given
