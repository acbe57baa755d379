-- How gates sort events.
use Rattle.std.specs.Prelude.{map}
use Rattle.{tally_base.specs.Settings.{group_view, shift_view}, gate_plan.specs.{Shifting.Sorting, declared.gates.Gates.Gates}}

-- the shifts and the groups that they were made of
abbrev pub sorting_of : Gates → Sorting
sorting_of gates = record { period = gates.period; shifts = map shift_view gates.shifts.items; groups = map group_view gates.groups.items }
