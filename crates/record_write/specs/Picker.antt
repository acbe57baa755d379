-- What a picker stands for.
use Rattle.std.specs.Prelude.{ℕ, ◌≡◌, ◌≤◌, Bool, true, false, List, [], ◌∷◌, ◌++◌, Result, is_ok, ◌↔◌, Err, OnOk, OnErr}
use Rattle.{tally_base.specs.{declared.{event.Event.Event, fault.Fault.{Fault, TheVariants.PickTime}, header.Mode.Mode}, Events.is_photon}, ptu_definitions.specs.Layouts.KindFits}
use Rattle.{record_write.specs.{declared.picker.Picker.Picker, Picked.{last_time, photon_words, is_too_late}, Writing.PickCause}, bench_io.specs.Sinks.SinkState}

abbrev pub mode_of : Picker → Mode
mode_of picker = picker.mode

abbrev pub last_by : Picker → ℕ
last_by picker = picker.last

-- `start` was called
abbrev pub was_begun : Picker → Bool
was_begun picker = picker.begun

-- it answered Ok, and no call was refused since
abbrev pub is_going : Picker → Bool
is_going picker = picker.going

-- The picker has picked these photons.
abbrev pub HasPicked : Picker → List Event → Type 0
HasPicked picker photons = last_by picker ≡ last_time photons

-- What `start` left, by the answer.
pub record Starts (old new : Picker) (result : Result (Unit {0}) Fault) : Type 0 where
  pub begun : was_begun new ≡ true
  pub going : is_going new ≡ is_ok result
  pub same_last : last_by new ≡ last_by old
  pub same_mode : mode_of new ≡ mode_of old

-- The header was written and no call refused, and the event is a photon that fits the picker's mode and comes no earlier than the last.
pub record IsNext (picker : Picker) (e : Event) : Type 0 where
  pub going : is_going picker ≡ true
  pub photon : is_photon e ≡ true
  pub fits : KindFits (mode_of picker) e.kind
  pub in_order : last_by picker ≤ e.time

-- The photon was picked after any others.
pub record Picks (old new : Picker) (e : Event) : Type 0 where
  pub picked : (photons : List Event) → HasPicked old photons → HasPicked new (photons ++ e ∷ [])
  pub last : last_by new ≡ e.time
  pub same_mode : mode_of new ≡ mode_of old
  pub same_begun : was_begun new ≡ was_begun old
  pub going : is_going new ≡ true

-- A call was refused, and the picker has picked no more.
pub record Closes (old new : Picker) : Type 0 where
  pub closed : is_going new ≡ false
  pub same_last : last_by new ≡ last_by old
  pub same_mode : mode_of new ≡ mode_of old
  pub same_begun : was_begun new ≡ was_begun old

-- This holds of the words of a photon after those that the picker has picked.
abbrev pub OnWordsOf : Picker → Event → (List ℕ → Type 0) → Type 0
OnWordsOf picker e holds = (photons : List Event) → HasPicked picker photons → holds (photon_words (mode_of picker) photons e)

-- A photon was picked and written, or refused: since its time is too late, or since a write failed.
pub record TakesPhoton (old new : Picker) (e : Event) (before now : SinkState) (result : Result (Unit {0}) Fault) : Type 0 where
  pub picks : OnOk result (Picks old new e)
  pub late : (result ≡ Err (PickTime e.place)) ↔ (is_too_late (mode_of old) e.time ≡ true)
  pub cause : PickCause e.place before now result
  pub closes : OnErr result (Closes old new)
