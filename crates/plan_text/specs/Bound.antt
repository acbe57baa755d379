-- How many entries the tables of a plan keep at most.
use Rattle.std.specs.Prelude.{ℕ, ◌+◌, ◌*◌, sum_by}
use Rattle.{tally_base.specs.Settings.entries, plan_text.specs.{Kind.Kind, Kinds.kinds, Plan.{PlanView, parts_of}}}

-- The bound of a plan: 48 bytes of a tag or of a record that are carried, the events that are kept back, and the
-- entries of each table.
abbrev pub bound : PlanView → ℕ
bound plan = 48 + plan.settle + sum_by entries (parts_of plan)

-- what the tables of a kind keep where there are as many as may be, each of the greatest settings
abbrev pub most_entries : Kind → ℕ
most_entries kind = kind.most * entries kind.greatest

-- the most events that are kept back
abbrev pub greatest_settle : ℕ
greatest_settle = 64

-- The bound of a plan with as many tables of each kind as may be, each of the greatest settings.
abbrev pub greatest_bound : ℕ
greatest_bound = 48 + greatest_settle + sum_by most_entries kinds
