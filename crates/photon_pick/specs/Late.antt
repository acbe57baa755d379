-- Which photons are too late to be written.
use Rattle.std.specs.{Prelude.{List, [], ◌∷◌, if◌then◌else◌, ◌≡◌, true, ◌++◌}, List.filter}
use Rattle.{tally_base.specs.declared.{event.Event.Event, header.Mode.Mode}, record_write.specs.Picked.is_too_late}

-- those whose time is too late to be written
abbrev pub too_late : Mode → List Event → List Event
too_late mode photons = filter (λ e. is_too_late mode e.time) photons

-- those before the first that is too late
abbrev pub writable : Mode → List Event → List Event
writable mode [] = []
writable mode (e ∷ es) = if is_too_late mode e.time then [] else e ∷ writable mode es

-- The photons before the first that is too late to be written.

-- They are the first of these photons, none of them is too late, and after them is nothing, or first one that is.
pub record AreBeforeLate (mode : Mode) (front photons : List Event) : Type 0 where
  pub behind : List Event
  pub parts : photons ≡ front ++ behind
  pub in_time : too_late mode front ≡ []
  pub next : (e : Event) (more : List Event) → behind ≡ e ∷ more → is_too_late mode e.time ≡ true
