-- Which groups an event is in.
use Rattle.std.specs.{Prelude.{ℕ, ◌+◌, ◌*◌, Bool, true, false, ◌&&◌, ◌==◌, nat_le, nat_lt, List, map, [], ◌∷◌}, List.list_any, Int.bit_at}
use Rattle.{tally_base.specs.{declared.event.{Event.Event, EventKind.{EventKind, TheVariants.{Photon, Marker}}}, Settings.GroupView}, gate_plan.specs.Shifting.{Sorting, shifted}}

-- the input is one of these: bit n is set for input n
abbrev pub is_among : ℕ → ℕ → Bool
is_among inputs input = bit_at inputs input == 1

-- the dtime is in the gate: from its first on and below its second
abbrev pub is_in_gate : ℕ → ℕ × ℕ → Bool
is_in_gate dtime gate = nat_le gate.0 dtime && nat_lt dtime gate.1

-- the dtime is in one of the gates, where there are any
abbrev pub is_in_gates : List (ℕ × ℕ) → ℕ → Bool
is_in_gates [] dtime = true
is_in_gates (gate ∷ gates) dtime = list_any (is_in_gate dtime) (gate ∷ gates)

-- a photon of one of the group's inputs, with a dtime in one of its gates
abbrev pub takes_kind : GroupView → EventKind → Bool
takes_kind group (Photon input dtime) = is_among group.inputs input && is_in_gates group.gates dtime
takes_kind group (Marker bits) = false

-- the event, whose dtime is shifted, is in the group
abbrev pub takes : GroupView → Event → Bool
takes group e = takes_kind group e.kind

-- the digit of a truth value
abbrev pub one_if : Bool → ℕ
one_if true = 1
one_if false = 0

-- the number whose bits are these, the lowest first
abbrev pub bits_of : List Bool → ℕ
bits_of [] = 0
bits_of (test ∷ tests) = one_if test + 2 * bits_of tests

-- the groups that an event, whose dtime is shifted, is in: bit g - 1 is set for group g
abbrev pub groups_by : List GroupView → Event → ℕ
groups_by groups e = bits_of (map (λ group. takes group e) groups)

-- the groups that an event of a file is in: its gates are those of the shifted dtime
abbrev pub groups_in : Sorting → Event → ℕ
groups_in by e = groups_by by.groups (shifted by e)
