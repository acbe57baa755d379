-- The groups without a gate and those with gates, apart.
use Rattle.std.specs.{Prelude.{ℕ, ◌≡◌, ◌<◌, ◌+◌, ◌-◌, ◌*◌, ◌^◌, min, Bool, true, false, ◌&&◌, List, [], ◌∷◌, map, sum_by, slice_index, slice_index_or}, List.{list_any, flat_map}}
use Rattle.{tally_base.specs.Settings.GroupView, gate_plan.specs.{Taking.{is_among, is_in_gate, one_if, bits_of}, declared.{gated.Gated.Gated, only_gate.OnlyGate.OnlyGate}}}

abbrev pub is_open : List (ℕ × ℕ) → Bool
is_open [] = true
is_open (gate ∷ gates) = false

abbrev pub passes : List (ℕ × ℕ) → ℕ → Bool
passes gates dtime = list_any (is_in_gate dtime) gates

-- the group has the input, and no gate
abbrev pub takes_plainly : ℕ → GroupView → Bool
takes_plainly input group = is_among group.inputs input && is_open group.gates

-- the group has the input, and a gate that the dtime is in
abbrev pub takes_gated : ℕ → ℕ → GroupView → Bool
takes_gated input dtime group = is_among group.inputs input && passes group.gates dtime

-- the gates of all groups
abbrev pub all_gates : List GroupView → List (ℕ × ℕ)
all_gates groups = flat_map (λ group. group.gates) groups

abbrev pub plain_bits : List GroupView → ℕ → ℕ
plain_bits groups input = bits_of (map (takes_plainly input) groups)

abbrev pub gated_bits : List GroupView → ℕ → ℕ → ℕ
gated_bits groups input dtime = bits_of (map (takes_gated input dtime) groups)

-- all gates of a group that has some
abbrev pub gates_of : Gated → List (ℕ × ℕ)
gates_of group = group.gate ∷ group.others.items

-- the gates of all of them
abbrev pub gates_in : List Gated → List (ℕ × ℕ)
gates_in gated = flat_map gates_of gated

abbrev pub gated_bit : ℕ → ℕ → Gated → ℕ
gated_bit input dtime group = one_if (slice_index_or group.has input false && passes (gates_of group) dtime) * 2 ^ group.place

abbrev pub gated_sum : List Gated → ℕ → ℕ → ℕ
gated_sum gated input dtime = sum_by (gated_bit input dtime) gated

-- the groups of a photon by those of each input that have no gate and by those with gates
abbrev pub groups_by : List ℕ → List Gated → ℕ → ℕ → ℕ
groups_by plain gated input dtime = slice_index plain input + gated_sum gated input dtime

-- the number of the groups of a photon of an input outside the gates of a group, and of one inside
abbrev pub on_sides : List ℕ → Gated → ℕ → List ℕ
on_sides plain group input = slice_index plain input ∷ min (slice_index plain input + one_if (slice_index_or group.has input false) * 2 ^ group.place) (2 ^ 64 - 1) ∷ []

-- the groups of a photon after an only gate
abbrev pub groups_behind : ℕ → ℕ → OnlyGate → ℕ
groups_behind input dtime only = slice_index (slice_index_or only.groups input []) (one_if (is_in_gate dtime only.gate))

-- An only gate tells the groups of photons by those without a gate and those with gates, where their number is one of 64 bits.
abbrev pub TellsGroupsBy : List ℕ → List Gated → OnlyGate → Type 0
TellsGroupsBy plain gated only = (input dtime : ℕ) → input < 256 → groups_by plain gated input dtime < 2 ^ 64 → groups_behind input dtime only ≡ groups_by plain gated input dtime

-- An only gate tells what photons of these groups are in.
abbrev pub TellsGroups : OnlyGate → List GroupView → Type 0
TellsGroups only groups = (input dtime : ℕ) → input < 256 → groups_behind input dtime only ≡ plain_bits groups input + gated_bits groups input dtime
