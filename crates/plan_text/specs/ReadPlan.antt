-- What reading a plan answers.
use Rattle.std.specs.{Prelude.{◌≡◌, ◌<◌, ◌≤◌, ℕ, List, map, flat_map, length, nat_le, Option, None, Some, Result, Ok, Err, if◌then◌else◌}, Str.is_utf8}
use Rattle.{tally_base.specs.{declared.fault.Fault.{Fault, TheVariants.{OutOfMemory, PlanTooLong, PlanSyntax, PlanRule}}, Settings.{group_view, shift_view}}, toml.specs.Data.{table, Members}}
use Rattle.{toml.specs.Parse.parse_document, toml_rules.specs.Rules.{all_kept, AllHold, IsLeast}, plan_text.specs.{Kinds.part_lists, Plan.{PlanView, plan_rules, plan, IsWhole}}}
use Rattle.plan_text.specs.declared.plan.Plan.{Plan}

-- what a contract sees of a plan
abbrev pub plan_view : Plan → PlanView
plan_view plan = record {
  order = plan.policy.order;
  reserved = plan.policy.reserved;
  records = plan.policy.records;
  settle = plan.policy.settle;
  period = plan.period;
  shifts = map shift_view plan.shifts.items;
  groups = map group_view plan.groups.items;
  parts = flat_map (λ list. list) (part_lists plan);
}

-- what a contract sees of a reading
abbrev pub plan_seen : Result Plan Fault → Result PlanView Fault
plan_seen (Ok plan) = Ok (plan_view plan)
plan_seen (Err fault) = Err fault

-- the most bytes of a plan
abbrev pub text_limit : ℕ
text_limit = 65536

-- the table that these bytes are as a TOML document
unfoldable pub document : List ℕ → Option Members
document bytes = if is_utf8 bytes then parse_document bytes else None

-- the plan, where no rule is broken
abbrev pub if_kept : Result (Unit {0}) Fault → PlanView → Result PlanView Fault
if_kept (Ok done) view = Ok view
if_kept (Err fault) view = Err fault

-- what reading a document answers
unfoldable pub plan_of_document : Option Members → Result PlanView Fault
plan_of_document None = Err PlanSyntax
plan_of_document (Some ms) = if_kept (all_kept (plan_rules (table ms))) (plan (table ms))

-- what reading a plan answers, where memory suffices
unfoldable pub plan_answer : List ℕ → Result PlanView Fault
plan_answer bytes = if nat_le (length bytes) text_limit then plan_of_document (document bytes) else Err PlanTooLong

-- ## The same without steps

-- The bytes are a document that keeps each rule, and each of its tables is in the plan.
abbrev pub IsValid : List ℕ → Type 0
IsValid bytes = (length bytes ≤ text_limit) × (ms : Members) × (document bytes ≡ Some ms) × AllHold (plan_rules (table ms)) × IsWhole (table ms)

-- The bytes call for the fault. Memory is wanted only for bytes that are not too long.
abbrev pub IsCalledFor : List ℕ → Fault → Type 0
IsCalledFor bytes OutOfMemory = length bytes ≤ text_limit
IsCalledFor bytes PlanTooLong = text_limit < length bytes
IsCalledFor bytes PlanSyntax = (length bytes ≤ text_limit) × (document bytes ≡ None)
IsCalledFor bytes (PlanRule n index) = (length bytes ≤ text_limit) × (ms : Members) × (document bytes ≡ Some ms) × IsLeast (plan_rules (table ms)) n index
IsCalledFor bytes _ = ⊥

-- Plans of the same parts have the same tables of each kind.
abbrev pub HaveSameTables : Plan → Plan → Type 0
HaveSameTables one other = (plan_view one).parts ≡ (plan_view other).parts → part_lists one ≡ part_lists other
