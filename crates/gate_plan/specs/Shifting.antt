-- The shifted dtimes of photons.
use Rattle.std.specs.Prelude.{ℕ, ◌+◌, ◌%◌, ◌==◌, List, [], ◌∷◌, Option, None, Some, if◌then◌else◌}
use Rattle.{tally_base.specs.{declared.event.{Event.Event, EventKind.{EventKind, TheVariants.{Photon, Marker}}}, Settings.{GroupView, ShiftView}}, plan_text.specs.Plan.PlanView}

-- how a plan sorts photons: its shifts modulo its period, and its groups
pub record Sorting : Type 0 where
  pub period : ℕ
  pub shifts : List ShiftView
  pub groups : List GroupView

abbrev pub sorting : PlanView → Sorting
sorting plan = record { period = plan.period; shifts = plan.shifts; groups = plan.groups }

-- the shift of an input, the first where there are several
abbrev pub shift_of : List ShiftView → ℕ → Option ℕ
shift_of [] input = None
shift_of (set ∷ shifts) input = if set.input == input then Some set.shift else shift_of shifts input

-- the dtime after a shift, modulo a period, and the dtime itself where there is no shift
abbrev pub shifted_by : ℕ → Option ℕ → ℕ → ℕ
shifted_by period None dtime = dtime
shifted_by period (Some shift) dtime = (dtime + shift) % period

-- the shifted dtime of a photon of an input
abbrev pub shifted_dtime : Sorting → ℕ → ℕ → ℕ
shifted_dtime by input dtime = shifted_by by.period (shift_of by.shifts input) dtime

abbrev pub shifted_kind : Sorting → EventKind → EventKind
shifted_kind by (Photon input dtime) = Photon input (shifted_dtime by input dtime)
shifted_kind by (Marker bits) = Marker bits

-- the event with its shifted dtime in place of its dtime, where it is a photon
abbrev pub shifted : Sorting → Event → Event
shifted by e = record { place = e.place; kind = shifted_kind by e.kind; time = e.time }
