-- What a clock stands for.
use Rattle.std.specs.Prelude.{ℕ, ◌≡◌, ◌+◌, ◌≤◌, ◌&&◌, IsTrue, nat_lt, List, [], ◌∷◌, ◌++◌, length, if◌then◌else◌, Result, Ok, Err}
use Rattle.tally_base.specs.{declared.{event.Event.Event, fault.Fault.{Fault, TheVariants.TimeLimit}, header.Mode.Mode}, Events.is_ordered, Limits.time_limit}
use Rattle.ptu_definitions.specs.{declared.records.Raw.Raw, Kinds.is_wrap, Times.{base, event_after, events, passes}, Kept.{is_late, greatest}, Layouts.KindFits}
use Rattle.abs_time.specs.declared.clock.{Clock.Clock, Placed.{Placed, TheVariants.{Event as InOrder, Late, Wrap, Reserved}}}

-- the numbers that a clock keeps, by the records placed
pub record IsClock (mode : Mode) (count sum top : ℕ) (records : List Raw) : Type 0 where
  pub placed : count ≡ length records
  pub base : sum ≡ base records
  pub greatest : top ≡ greatest mode (events records)

abbrev pub mode_of : Clock → Mode
mode_of clock = clock.mode

abbrev pub placed_by : Clock → ℕ
placed_by clock = clock.placed

abbrev pub base_of : Clock → ℕ
base_of clock = clock.base

abbrev pub greatest_by : Clock → ℕ
greatest_by clock = clock.greatest

-- The clock placed these records.
abbrev pub HasPlaced : Clock → List Raw → Type 0
HasPlaced clock records = IsClock clock.mode clock.placed clock.base clock.greatest records

-- After all that the clock placed, these records lead to these numbers.
abbrev pub LeadsOn : Clock → ℕ → ℕ → ℕ → List Raw → Type 0
LeadsOn clock count sum top more = (records : List Raw) → HasPlaced clock records → IsClock (mode_of clock) count sum top (records ++ more)

-- an event, where the ordered ones before it have this greatest time
abbrev pub against : Mode → ℕ → Event → Placed
against mode top e = if is_ordered mode e && nat_lt e.time top then Late e top else InOrder e

abbrev pub placed_event : Mode → List Event → Event → Placed
placed_event mode before e = if is_late mode before e then Late e (greatest mode before) else InOrder e

-- a record by its event, if it is one
abbrev pub placed_as : Mode → List Event → Raw → List Event → Placed
placed_as mode before raw [] = if is_wrap raw then Wrap else Reserved
placed_as mode before raw (e ∷ es) = placed_event mode before e

-- what placing a record after these answers
unfoldable pub place_answer : Mode → List Raw → Raw → Result Placed Fault
place_answer mode before raw =
    if passes before raw then Err (TimeLimit (length before + 1)) else Ok (placed_as mode (events before) raw (event_after before raw))

-- an event of a record whose fields are as large as its mode allows
pub record IsSmall (mode : Mode) (e : Event) : Type 0 where
  pub in_time : e.time ≤ time_limit
  pub kind : KindFits mode e.kind

-- What is known of a placed record by the greatest times before and after it.
abbrev pub Moves : Mode → ℕ → ℕ → Placed → Type 0
Moves mode before now (InOrder e) = IsSmall mode e × (IsTrue (is_ordered mode e) → before ≤ e.time) × (now ≡ (if is_ordered mode e then e.time else before))
Moves mode before now (Late e top) = IsSmall mode e × (now ≡ before)
Moves mode before now Wrap = now ≡ before
Moves mode before now Reserved = now ≡ before

-- the event of a placed record is the next one after so many records
abbrev pub IsAtPlace : ℕ → Placed → Type 0
IsAtPlace count (InOrder e) = e.place ≡ count + 1
IsAtPlace count (Late e top) = e.place ≡ count + 1
IsAtPlace count Wrap = Unit {0}
IsAtPlace count Reserved = Unit {0}

-- One record more is placed, and its event, if it is one, has its number.
pub record IsNext (before now : ℕ) (placed : Placed) : Type 0 where
  pub count : now ≡ before + 1
  pub place : IsAtPlace before placed

-- Whatever the answer, the mode stays, and at most one more record is placed.
pub record GoesOn (old new : Clock) : Type 0 where
  pub same_mode : mode_of new ≡ mode_of old
  pub count : placed_by new ≤ placed_by old + 1
