-- What the tables of shifts say and the period of the dtimes, and the rules on them.
use Rattle.std.specs.Prelude.{ℕ, ◌+◌, ◌-◌, ◌==◌, Bool, List, [], ◌∷◌, length, codes, Option, None, Some, is_some, unwrap_or, if◌then◌else◌}
use Rattle.{toml.specs.Data.{Data, get}, tally_base.specs.Settings.ShiftView, toml_rules.specs.{Rules.{Rule, whole, each}, Values.{list_at, has_keys, integer_in, number_in}}}
use Rattle.plan_text.specs.{Settle.settle, Kind.TableList}

-- the tables of shifts
abbrev pub shifts : Data → List Data
shifts = list_at (codes "shift")

-- ## The period

-- the period beside so many shifts, of a value that may be left out where there is none
abbrev pub period_beside : ℕ → Option Data → Option ℕ
period_beside count None = if count == 0 then Some 1 else None
period_beside count (Some d) = integer_in 1 32768 d

-- the period of the dtimes: None where it breaks its rule
unfoldable pub period : Data → Option ℕ
period d = period_beside (length (shifts d)) (get (codes "period") d)

-- the period by which the shifts are read
unfoldable pub period_or_one : Data → ℕ
period_or_one d = unwrap_or (period d) 1

-- ## The shifts

-- the settings of these numbers, where each keeps its rule
abbrev pub shift_of : Option ℕ → Option ℕ → Option ShiftView
shift_of (Some input) (Some shift) = Some (record { input = input; shift = shift })
shift_of _ _ = None

-- the settings that a table gives, of an input from low on
unfoldable pub shift : ℕ → ℕ → Data → Option ShiftView
shift period low set = shift_of (number_in low 64 (get (codes "input") set)) (number_in 0 (period - 1) (get (codes "shift") set))

-- the least input after a shift
abbrev pub input_behind : Option ShiftView → ℕ
input_behind (Some set) = set.input + 1
input_behind None = 0

-- the settings that tables give, each of a greater input than the one before
abbrev pub shifts_from : ℕ → ℕ → List Data → List (Option ShiftView)
shifts_from period low [] = []
shifts_from period low (set ∷ sets) = shift period low set ∷ shifts_from period (input_behind (shift period low set)) sets

-- what each table of the document gives: None where it breaks its rule
unfoldable pub all_shifts : Data → List (Option ShiftView)
all_shifts d = shifts_from (period_or_one d) 0 (shifts d)

-- exactly the keys input and shift
unfoldable pub has_shift_keys : Data → Bool
has_shift_keys = has_keys (codes "input" ∷ codes "shift" ∷ []) []

-- the rules on the period and the shifts, and after them the one on settling
unfoldable pub shift_rules : Data → List Rule
shift_rules d =
    whole 23 (is_some (period d))
    ∷ each 24 has_shift_keys (shifts d)
    ∷ each 25 (λ set. is_some set) (all_shifts d)
    ∷ whole 26 (is_some (settle d))
    ∷ []

-- the shifts in a plan
abbrev pub shift_list : TableList
shift_list = record { key = codes "shift"; most = 65; rules = shift_rules }
