-- What the gates of a group and the groups of a fold are.
use Rattle.std.specs.{Prelude.{ℕ, ◌<◌, ◌≤◌, ◌&&◌, nat_le, nat_lt, if◌then◌else◌, List, [], ◌∷◌, ⊤}, Coded.{Unit-prop, le_prop}}

-- ranges of dtimes, each from its first on and below its second, that rise from low on
abbrev pub AreGates : ℕ → List (ℕ × ℕ) → Type 0
AreGates low [] = ⊤
AreGates low (gate ∷ gates) = (low ≤ gate.0) × (gate.0 < gate.1) × (gate.1 ≤ 32768) × AreGates gate.1 gates

-- There is at most one proof of it.
pub AreGates-prop : (low : ℕ) (gates : List (ℕ × ℕ)) → IsProp (AreGates low gates)
AreGates-prop low [] one other = Unit-prop one other
AreGates-prop low (gate ∷ gates) one other = λ i. (le_prop one.0 other.0 i, le_prop one.1 other.1 i, le_prop one.2 other.2 i, AreGates-prop gate.1 gates one.3 other.3 i)

-- numbers of groups that rise, each above low
abbrev pub AreGroups : ℕ → List ℕ → Type 0
AreGroups low [] = ⊤
AreGroups low (group ∷ groups) = (low < group) × (group ≤ 64) × AreGroups group groups

-- There is at most one proof of it.
pub AreGroups-prop : (low : ℕ) (groups : List ℕ) → IsProp (AreGroups low groups)
AreGroups-prop low [] one other = Unit-prop one other
AreGroups-prop low (group ∷ groups) one other = λ i. (le_prop one.0 other.0 i, le_prop one.1 other.1 i, AreGroups-prop group groups one.2 other.2 i)

-- the side of a gate that a dtime is on: 1 from its first on and below its second, else 0
abbrev pub side_of : ℕ × ℕ → ℕ → ℕ
side_of gate dtime = if nat_le gate.0 dtime && nat_lt dtime gate.1 then 1 else 0
