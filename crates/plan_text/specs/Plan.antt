-- All rules of a plan, and the plan that a document gives.
use Rattle.std.specs.Prelude.{◌≡◌, map, ℕ, Bool, true, false, List, [], ◌∷◌, ◌++◌, Result, Ok, Option, None, Some, unwrap_or, filter_map, flat_map}
use Rattle.{toml.specs.Data.Data, tally_base.specs.{declared.{fault.Fault.Fault, event.{Order.Order, OnReserved.OnReserved}}, Settings.{GroupView, ShiftView, PartSettings}, Limits.record_limit}}
use Rattle.{toml_rules.specs.Rules.{Rule, or_next, all_kept}, plan_text.specs.{Document.{order, reserved, records, document_rules}, Groups.{groups, group}, Kind.{tables, TableList}, Kinds.kinds}}
use Rattle.plan_text.specs.{Kinds.table_lists, Settle.settle_or_none, Shifts.{period_or_one, all_shifts}}
use Rattle.tally_base.specs.declared.event.Order.TheVariants as orders
use Rattle.tally_base.specs.declared.event.OnReserved.TheVariants as choices

-- all rules, in their order
unfoldable pub plan_rules : Data → List Rule
plan_rules d = document_rules d ++ flat_map (λ list. list.rules d) table_lists

-- what going through the rules on some lists answers
abbrev pub lists_kept : List TableList → Data → Result (Unit {0}) Fault
lists_kept [] d = Ok tt
lists_kept (list ∷ lists) d = or_next (all_kept (list.rules d)) (lists_kept lists d)

-- What a contract sees of a plan.
pub record PlanView : Type 0 where
  pub order : Order
  pub reserved : OnReserved
  -- the greatest number of records
  pub records : ℕ
  -- how many events may overtake one that is put in its place
  pub settle : ℕ
  -- modulo which the dtimes of an input with a shift are taken
  pub period : ℕ
  pub shifts : List ShiftView
  pub groups : List GroupView
  -- the settings of its tables, in the order of the report: by kinds, and by numbers in each
  pub parts : List PartSettings

abbrev pub parts_of : PlanView → List PartSettings
parts_of plan = plan.parts

-- what becomes of late events
abbrev pub order_of : Option Bool → Order
order_of (Some true) = orders.Stop
order_of (Some false) = orders.Drop
order_of None = orders.Drop

-- what becomes of reserved records
abbrev pub reserved_of : Option Bool → OnReserved
reserved_of (Some true) = choices.Stop
reserved_of (Some false) = choices.Skip
reserved_of None = choices.Skip

-- the plan of a document that keeps the rules
unfoldable pub plan : Data → PlanView
plan d = record {
  order = order_of (order d);
  reserved = reserved_of (reserved d);
  records = unwrap_or (records d) record_limit;
  settle = settle_or_none d;
  period = period_or_one d;
  shifts = filter_map (λ set. set) (all_shifts d);
  groups = filter_map (group d) (groups d);
  parts = flat_map (λ kind. filter_map (kind.read d) (tables kind d)) kinds;
}

-- Each table of the document's lists is in the plan.
pub record IsWhole (d : Data) : Type 0 where
  pub shifts : map (λ one. Some one) (plan d).shifts ≡ all_shifts d
  pub groups : map (λ one. Some one) (plan d).groups ≡ map (group d) (groups d)
  pub parts : map (λ one. Some one) (plan d).parts ≡ flat_map (λ kind. map (kind.read d) (tables kind d)) kinds
