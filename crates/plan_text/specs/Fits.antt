-- Which parts of a plan suit a file of a mode.
use Rattle.std.specs.{Prelude.{◌≡◌, ℕ, ◌==◌, Bool, true, false, List, [], ◌∷◌, ◌++◌, map, length, ◌⊎◌, Result, Ok, Err, Option, None, Some}, List.AllByRecursion}
use Rattle.tally_base.specs.declared.{fault.Fault.{Fault, TheVariants.PlanMode}, header.Mode.{Mode, TheVariants.{T2, T3}}, part.PartKind.{PartKind, TheVariants.{Gate, Shift, Histogram, StartStop}}}
use Rattle.tally_base.specs.{declared.part.PartKind.TheVariants.{Coincidence, Image, Cube, Fold}, Settings.{GroupView, ShiftView, PartSettings, PartSettings.{HistSettings, StartStopSettings}}}
use Rattle.{tally_base.specs.Settings.PartSettings.{CoincidenceSettings, ImageSettings, CubeSettings, FoldSettings}, plan_text.specs.Plan.PlanView, toml_rules.specs.Rules.{or_next, held_from}}
use Rattle.toml_rules.specs.Rules.{BreaksFirst, BreaksAt}

-- a group with gates doesn't suit T2, which has no dtimes
abbrev pub group_suits : Mode → GroupView → Bool
group_suits T2 group = length group.gates == 0
group_suits T3 group = true

-- nor does a shift
abbrev pub shift_suits : Mode → ShiftView → Bool
shift_suits T2 set = false
shift_suits T3 set = true

-- the name of a table that doesn't suit the mode; None where it suits
abbrev pub misfit : Mode → PartSettings → Option PartKind
misfit T2 (HistSettings set) = Some Histogram
misfit T2 (ImageSettings set) = Some Image
misfit T2 (CubeSettings set) = Some Cube
misfit T3 (StartStopSettings set) = Some StartStop
misfit T3 (CoincidenceSettings set) = Some Coincidence
misfit T3 (FoldSettings set) = Some Fold
misfit _ _ = None

-- what is answered of a table, the first of its kind, since of a kind that doesn't suit no table suits
abbrev pub refusal : Mode → Option PartKind → Result (Unit {0}) Fault
refusal mode None = Ok tt
refusal mode (Some kind) = Err (PlanMode kind 1 mode)

-- what is answered of settings of which each suits the mode or doesn't
abbrev pub all_suit : PartKind → Mode → List Bool → Result (Unit {0}) Fault
all_suit kind mode suits = held_from (λ number. PlanMode kind number mode) 1 suits

-- whether each group suits the mode, and else the first that doesn't
abbrev pub groups_fit : Mode → List GroupView → Result (Unit {0}) Fault
groups_fit mode groups = all_suit Gate mode (map (group_suits mode) groups)

-- whether each shift suits the mode, and else the first that doesn't
abbrev pub shifts_fit : Mode → List ShiftView → Result (Unit {0}) Fault
shifts_fit mode sets = all_suit Shift mode (map (shift_suits mode) sets)

-- whether each table suits the mode, and else the first that doesn't
abbrev pub parts_fit : Mode → List PartSettings → Result (Unit {0}) Fault
parts_fit mode [] = Ok tt
parts_fit mode (part ∷ parts) = or_next (refusal mode (misfit mode part)) (parts_fit mode parts)

-- whether each part suits the mode, and else the first that doesn't: the groups stand before the shifts, and these before the tables
unfoldable pub fits : Mode → PlanView → Result (Unit {0}) Fault
fits mode plan = or_next (groups_fit mode plan.groups) (or_next (shifts_fit mode plan.shifts) (parts_fit mode plan.parts))

-- Each of the settings suits the mode.
abbrev pub AllSuit : List Bool → Type 0
AllSuit suits = (number : ℕ) → BreaksAt 1 suits number → ⊥

-- The fault names the first of the settings that doesn't suit the mode.
abbrev pub NamesFirst : PartKind → Mode → List Bool → Fault → Type 0
NamesFirst kind mode suits fault = (number : ℕ) × (fault ≡ PlanMode kind number mode) × BreaksFirst 1 suits number

-- The table of this kind is the first that doesn't suit the mode.
pub record IsFirstMisfit (mode : Mode) (parts : List PartSettings) (kind : PartKind) : Type 0 where
  pub before : List PartSettings
  pub here : PartSettings
  pub after : List PartSettings
  pub stands : parts ≡ before ++ here ∷ after
  pub names : misfit mode here ≡ Some kind
  pub suit : AllByRecursion (λ part. misfit mode part ≡ None) before

-- The fault names the first table that doesn't suit the mode.
abbrev pub NamesTable : Mode → List PartSettings → Fault → Type 0
NamesTable mode parts fault = (kind : PartKind) × (fault ≡ PlanMode kind 1 mode) × IsFirstMisfit mode parts kind

-- The fault names the first part that doesn't suit the mode: a group with gates, where each group suits a shift, and where each shift suits too a table.
abbrev pub IsMisfit : Mode → PlanView → Fault → Type 0
IsMisfit mode plan fault =
    let groups = map (group_suits mode) plan.groups in
    let shifts = map (shift_suits mode) plan.shifts in
    NamesFirst Gate mode groups fault
    ⊎ ((AllSuit groups × NamesFirst Shift mode shifts fault)
    ⊎ (AllSuit groups × AllSuit shifts × NamesTable mode plan.parts fault))
