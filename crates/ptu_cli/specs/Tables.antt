-- A table of how a run may end: lines, of which one applies, whatever their order.
use Rattle.std.specs.Prelude.{ℕ, ◌≡◌, ◌⊎◌, Some}
use Rattle.{tally_base.specs.declared.fault.Fault.Fault, command_work.specs.Outcomes.{Outcome, IsIn, status}}

-- What a line is for: a good end, or what calls for its fault.
pub data Phase : Type 0 where
  Well : Phase
  AtWords : Phase
  AtFile : Phase
  AtPlan : Phase
  AtMode : Phase
  AtHeader : Phase
  AtCut : Phase
  AtRecord : Phase
  AtNeed : Phase
  AtLate : Phase

-- the statuses of a phase
abbrev pub InPhase : Phase → ℕ → Type 0
InPhase Well = IsIn 0 0
InPhase AtWords = IsIn 1 1
InPhase AtFile = IsIn 2 2
InPhase AtPlan = IsIn 6 8
InPhase AtMode = IsIn 9 9
InPhase AtHeader = IsIn 10 16
InPhase AtCut = IsIn 17 17
InPhase AtRecord = IsIn 18 21
InPhase AtNeed = IsIn 22 23
InPhase AtLate = IsIn 24 24

-- A line has its phase, bounds of its statuses, and where it applies to what is known (`K`) and what is looked at (`X`), with which end.
pub data Lines (K X : Type 0) : Type 1 where
  NoLine : Lines K X
  Line : (phase : Phase) (least greatest : ℕ) (ends : K → X → Outcome → Type 0) (others : Lines K X) → Lines K X

-- A table for what is found further on (`Z`), as one of what it is found in: each line applies where it does for something that is found there.
abbrev pub within : {K X L Y Z : Type 0} → (K → X → Z → Type 0) → (K → X → Z → L) → (K → X → Z → Y) → Lines L Y → Lines K X
within holds known seen NoLine = NoLine
within {Z = Z} holds known seen (Line phase least greatest ends others) =
    Line phase least greatest (λ k x end. (z : Z) × holds k x z × ends (known k x z) (seen k x z) end) (within holds known seen others)

-- A line applies, with this end.
abbrev pub Applies : {K X : Type 0} → Lines K X → K → X → Outcome → Type 0
Applies NoLine k x end = ⊥
Applies (Line phase least greatest ends others) k x end = ends k x end ⊎ Applies others k x end

-- A line of this phase applies, with this end.
abbrev pub AppliesAt : {K X : Type 0} → Phase → Lines K X → K → X → Outcome → Type 0
AppliesAt p NoLine k x end = ⊥
AppliesAt p (Line phase least greatest ends others) k x end = ((p ≡ phase) × ends k x end) ⊎ AppliesAt p others k x end

-- A line of this phase applies, with an end of this fault.
abbrev pub Cause : {K X : Type 0} → Phase → Lines K X → K → X → Fault → Type 0
Cause p table k x fault = (end : Outcome) × AppliesAt p table k x end × (end.fault ≡ Some fault)

-- A line has this status within its bounds.
abbrev pub HasStatus : {K X : Type 0} → Lines K X → ℕ → Type 0
HasStatus NoLine n = ⊥
HasStatus (Line phase least greatest ends others) n = IsIn least greatest n ⊎ HasStatus others n

-- The statuses of each line are some of its phase, and each of its ends has one of them.
abbrev pub Sound : {K X : Type 0} → Lines K X → Type 0
Sound NoLine = Unit {0}
Sound {K = K} {X = X} (Line phase least greatest ends others) = ((n : ℕ) → IsIn least greatest n → InPhase phase n)
    × ((end : Outcome) (k : K) (x : X) → ends k x end → IsIn least greatest (status end.fault)) × Sound others
