-- Rules in their order, and the place of the first one that is broken.
use Rattle.std.specs.Prelude.{◌≡◌, ℕ, ◌+◌, ◌<◌, ◌≤◌, Bool, true, false, List, [], ◌∷◌, map, ◌⊎◌, Result, Ok, Err}
use Rattle.tally_base.specs.declared.fault.Fault.{Fault, TheVariants.PlanRule}

-- A rule at a document: its number, the index of the first thing that it speaks of, and of each of these things whether it is as the rule says.
pub record Rule : Type 0 where
  pub number : ℕ
  pub first : ℕ
  pub tests : List Bool

-- a rule on the document as a whole
abbrev pub whole : ℕ → Bool → Rule
whole n test = record { number = n; first = 0; tests = test ∷ [] }

-- a rule on each thing of a list
abbrev pub each : {X : Type 0} → ℕ → (X → Bool) → List X → Rule
each n test things = record { number = n; first = 1; tests = map test things }

-- A test, of those that stand from the first index on, fails at this index.
abbrev pub BreaksAt : ℕ → List Bool → ℕ → Type 0
BreaksAt first [] index = ⊥
BreaksAt first (test ∷ tests) index = ((index ≡ first) × (test ≡ false)) ⊎ BreaksAt (first + 1) tests index

-- Rule n is broken at this index.
abbrev pub IsBroken : List Rule → ℕ → ℕ → Type 0
IsBroken [] n index = ⊥
IsBroken (rule ∷ rules) n index = ((n ≡ rule.number) × BreaksAt rule.first rule.tests index) ⊎ IsBroken rules n index

-- The least broken rule, and under it the least index.
pub record IsLeast (rules : List Rule) (n index : ℕ) : Type 0 where
  pub broken : IsBroken rules n index
  pub least : (other at : ℕ) → IsBroken rules other at → (n < other) ⊎ ((n ≡ other) × (index ≤ at))

-- The tests break first at this index.
pub record BreaksFirst (first : ℕ) (tests : List Bool) (index : ℕ) : Type 0 where
  pub breaks : BreaksAt first tests index
  pub least : (later : ℕ) → BreaksAt first tests later → index ≤ later

-- The fault names the least broken rule.
abbrev pub Names : List Rule → Fault → Type 0
Names rules (PlanRule n index) = IsLeast rules n index
Names rules _ = ⊥

-- No rule is broken.
abbrev pub AllHold : List Rule → Type 0
AllHold rules = (n index : ℕ) → IsBroken rules n index → ⊥

-- The numbers of the rules rise, and are above this one.
abbrev pub RiseFrom : ℕ → List Rule → Type 0
RiseFrom low [] = Unit {0}
RiseFrom low (rule ∷ rules) = (low < rule.number) × RiseFrom rule.number rules

-- ## What going through the rules answers

-- the first refusal of two
abbrev pub or_next : Result (Unit {0}) Fault → Result (Unit {0}) Fault → Result (Unit {0}) Fault
or_next (Ok done) next = next
or_next (Err fault) next = Err fault

-- a test at one index
abbrev pub held : (ℕ → Fault) → ℕ → Bool → Result (Unit {0}) Fault
held fault index true = Ok tt
held fault index false = Err (fault index)

-- tests at each index from this one on
abbrev pub held_from : (ℕ → Fault) → ℕ → List Bool → Result (Unit {0}) Fault
held_from fault index [] = Ok tt
held_from fault index (test ∷ tests) = or_next (held fault index test) (held_from fault (index + 1) tests)

-- one rule
abbrev pub kept : Rule → Result (Unit {0}) Fault
kept rule = held_from (PlanRule rule.number) rule.first rule.tests

-- all rules in their order
abbrev pub all_kept : List Rule → Result (Unit {0}) Fault
all_kept [] = Ok tt
all_kept (rule ∷ rules) = or_next (kept rule) (all_kept rules)
