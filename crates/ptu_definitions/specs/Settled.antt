-- Events that may come some places too late: which are late all the same, the kept list and the settled list.
use Rattle.std.specs.{Prelude.{ℕ, ◌-◌, ◌≤◌, ◌&&◌, ◌==◌, not, Bool, true, false, nat_lt, List, [], ◌∷◌, ◌++◌, length, take, drop, map, filter, count_by, if◌then◌else◌, ◌≡◌, ◌<◌}, List.AllByRecursion}
use Rattle.{tally_base.specs.{declared.{event.Event.Event, header.Mode.Mode}, Events.is_ordered}, ptu_definitions.specs.{Prefixes.each, Kept.{Marked, marked, kept}}}

-- Of events that are all ordered.

-- how many of these events have a greater time
abbrev pub later_than : ℕ → List Event → ℕ
later_than time es = count_by (λ x. nat_lt time x.time) es

-- An event is late where more than k events before it have a greater time.
abbrev pub is_overtaken : ℕ → List Event → Event → Bool
is_overtaken k before e = nat_lt k (later_than e.time before)

-- one event, unless it is late
abbrev pub unless_overtaken : ℕ → List Event → Event → List Event
unless_overtaken k before e = if is_overtaken k before e then [] else e ∷ []

-- the events that aren't late, in file order
unfoldable pub not_overtaken : ℕ → List Event → List Event
not_overtaken k es = each (unless_overtaken k) es

-- events in order of time and one more, which comes after all whose time is not greater
abbrev pub put_in : Event → List Event → List Event
put_in e [] = e ∷ []
put_in e (x ∷ xs) = if nat_lt e.time x.time then e ∷ x ∷ xs else x ∷ put_in e xs

-- events in order of time and more of them, put in one after another
abbrev pub put_all : List Event → List Event → List Event
put_all sorted [] = sorted
put_all sorted (e ∷ es) = put_all (put_in e sorted) es

-- The events that aren't late in order of time, those of equal time in file order.
unfoldable pub in_time : ℕ → List Event → List Event
in_time k es = put_all [] (not_overtaken k es)

-- a list without its last k items, which is empty where it has fewer
abbrev pub without_last : {A : Type 0} → ℕ → List A → List A
without_last k xs = take (length xs - k) xs

-- its last k items, or all where it has fewer
abbrev pub last_of : {A : Type 0} → ℕ → List A → List A
last_of k xs = drop (length xs - k) xs

-- Of the events of a file of this mode.

abbrev pub ordered : Mode → List Event → List Event
ordered mode es = filter (λ e. is_ordered mode e) es

-- An ordered event is late where at least k + 1 ordered events before it have a greater time.
abbrev pub is_late_by : ℕ → Mode → List Event → Event → Bool
is_late_by k mode before e = is_ordered mode e && is_overtaken k (ordered mode before) e

-- The kept list. Where k is 0 it has all events that aren't late, in file order. Otherwise it has all ordered
-- events that aren't late, in order of time, those of equal time in file order.
abbrev pub kept_by : ℕ → Mode → List Event → List Event
kept_by k mode es = if k == 0 then kept mode es else in_time k (ordered mode es)

-- The settled list: the kept list without its last k events.
abbrev pub settled_by : ℕ → Mode → List Event → List Event
settled_by k mode es = without_last k (kept_by k mode es)

-- the ordered events that are late, in file order
unfoldable pub late_by : ℕ → Mode → List Event → List Event
late_by k mode es = each (λ before e. if is_late_by k mode before e then e ∷ [] else []) es

-- What is delivered.

abbrev pub those_marked : Marked → List Event
those_marked l = map (λ x. x.0) (filter (λ x. x.1) l)

abbrev pub not_marked : Marked → List Event
not_marked l = map (λ x. x.0) (filter (λ x. not x.1) l)

abbrev pub marked_as : Bool → List Event → Marked
marked_as late es = map (λ e. (e, late)) es

-- what one ordered event adds: itself where it is late, or else what is settled with it and was not before
abbrev pub settles : ℕ → List Event → Event → Marked
settles k before e =
    if is_overtaken k before e then (e, true) ∷ []
    else marked_as false (drop (length (without_last k (in_time k before))) (without_last k (in_time k (before ++ e ∷ []))))

-- What is delivered after some first events: where k is 0 all events in file order, each with whether it is late.
-- Otherwise each late event when it comes, and each other event when it is settled.
unfoldable pub delivered : ℕ → Mode → List Event → Marked
delivered k mode es = if k == 0 then marked mode es else each (settles k) (ordered mode es)

-- what is delivered at the end
unfoldable pub delivered_last : ℕ → Mode → List Event → Marked
delivered_last k mode es = if k == 0 then [] else marked_as false (last_of k (in_time k (ordered mode es)))

-- What is known of lists in order of time.

-- no time falls, and none is before this one
abbrev pub Rises : ℕ → List Event → Type 0
Rises time [] = Unit {0}
Rises time (x ∷ xs) = (time ≤ x.time) × Rises x.time xs

-- What is known of events in the order in which they came, of those settled and of those not settled yet.

-- An event is late exactly where it is before the last time settled: all k that wait are no earlier than this, and of
-- all that came only those that wait can be later.
pub record IsOpen (k : ℕ) (came settled waiting : List Event) (last : ℕ) : Type 0 where
  pub rising : Rises last waiting
  pub early : AllByRecursion (λ x. x.time ≤ last) settled
  pub full : length waiting < k → settled ≡ []
  pub above : (t : ℕ) → last ≤ t → later_than t came ≡ later_than t waiting
  pub below : (t : ℕ) → t < last → k < later_than t came
