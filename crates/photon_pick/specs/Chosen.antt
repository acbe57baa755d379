-- The photons of a group.
use Rattle.std.specs.Prelude.{ℕ, ◌&&◌, Bool}
use Rattle.{tally_base.specs.{declared.event.Event.Event, Events.{is_photon, is_in}}, gate_plan.specs.{Groups.sorting_of, Shifting.Sorting, Taking.groups_in, declared.gates.Gates.Gates}}

-- The event is a photon of the group, by its shifted dtime.
abbrev pub is_chosen : Sorting → ℕ → Event → Bool
is_chosen by group e = is_photon e && is_in (groups_in by e) group

-- the same by the gates of a plan
abbrev pub is_of_group : Gates → ℕ → Event → Bool
is_of_group gates group = is_chosen (sorting_of gates) group
