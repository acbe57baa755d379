use Rattle.{std.proofs.Common.{◌≡◌, ◌<◌, ℕ, List, min, slice_index, arith, rules}, tally_base.specs.{declared.event.Event.Event, Settings.GroupView}}
use Rattle.{tally_base.specs.Codes.kind_of, gate_plan.{specs.{Taking.groups_by, Parting.{plain_bits, gated_bits}}, proofs.Parts.by_code}}
use Rattle.gate_plan.proofs.Histories.{sorted_rows}
use Rattle.gate_plan.proofs.blocks.sort_by_input.Goals as goal

-- the groups of an event by its code, where no group has a gate
looked_up : (groups : List GroupView) (table : List ℕ) (code dtime : ℕ) (e : Event) → e.kind ≡ kind_of code dtime
    → ((input : ℕ) → input < 256 → slice_index table input ≡ plain_bits groups input) → slice_index table 256 ≡ 0
    → ((input dtime : ℕ) → gated_bits groups input dtime ≡ 0) → slice_index table (min code 256) ≡ groups_by groups e
looked_up groups table code dtime e is inputs markers none =
    by_code groups (slice_index table) code dtime e is (λ low. omega (arith, inputs code low, none code dtime)) markers

pub returns : goal.returns
returns c = record { same = search (rules, arith); found = search (rules, arith, sorted_rows, looked_up); ready = search (rules, arith) }
