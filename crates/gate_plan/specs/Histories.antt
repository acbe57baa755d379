-- The list of the events that tables are given: the kept list, with shifted dtimes and with groups.
use Rattle.std.specs.Prelude.{◌≡◌, ℕ, List, map}
use Rattle.tally_base.specs.{declared.{event.{Event.Event, Policy.Policy}, block.Block.Block, header.Header.Header}, Settings.GroupView, Tally.History, Columns.{gathered, events_in, IsSorted}}
use Rattle.{gate_plan.specs.{Taking.groups_by, Shifting.{Sorting, shifted}}, ptu_definitions.specs.{Settled.{kept_by, settled_by}, Times.events, Streams.{StreamSettings, reading}}}
use Rattle.plan_text.specs.Plan.{PlanView}

-- events whose dtimes are shifted, each with the groups that it is in
abbrev pub grouped : List GroupView → List Event → History
grouped groups es = map (λ e. (e, groups_by groups e)) es

-- A block keeps its events, and has the groups of each.
pub record FindsGroups {N : ℕ} (groups : List GroupView) (old new : Block N) : Type 0 where
  pub same : gathered new ≡ gathered old
  pub found : events_in new ≡ grouped groups (gathered old)
  pub ready : IsSorted new

-- events of a file, each photon with its shifted dtime in place of its dtime, and each event with the groups that it is in
abbrev pub with_groups : Sorting → List Event → History
with_groups by es = grouped by.groups (map (shifted by) es)

-- The photons of a block have their shifted dtimes, and its events their groups.
pub record SortsEvents {N : ℕ} (by : Sorting) (old new : Block N) : Type 0 where
  pub shifted : gathered new ≡ map (shifted by) (gathered old)
  pub sorted : events_in new ≡ with_groups by (gathered old)
  pub ready : IsSorted new

-- The list that every table counts over: the kept list of these words, each photon with its shifted dtime in place of its dtime, and each event with its groups.
unfoldable pub history : Sorting → StreamSettings → List ℕ → History
history by how words = with_groups by (kept_by how.policy.settle how.mode (events (map how.meaning words)))

-- The same of those that are settled: what tables are given while more words may come.
unfoldable pub settled_history : Sorting → StreamSettings → List ℕ → History
settled_history by how words = with_groups by (settled_by how.policy.settle how.mode (events (map how.meaning words)))

-- How a plan reads the records after a header.

abbrev pub policy_of : PlanView → Policy
policy_of plan = record { order = plan.order; reserved = plan.reserved; records = plan.records; settle = plan.settle }

-- how a plan reads the records after a header
abbrev pub reading_by : PlanView → Header → StreamSettings
reading_by plan header = reading header.record_type (policy_of plan)
