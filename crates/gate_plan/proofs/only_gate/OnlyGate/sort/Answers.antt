use Rattle.std.proofs.Common.{◌≡◌, ◌∷◌, ℕ, Bool, true, false, [], List, min, slice_index, slice_index_or, if◌then◌else◌, refl, arith, rules}
use Rattle.{tally_base.specs.{declared.event.Event.Event, Settings.GroupView, Codes.kind_of}, gate_plan.specs.Taking.{groups_by, one_if, is_in_gate}}
use Rattle.gate_plan.{specs.{Parting.TellsGroups, declared.only_gate.OnlyGate.OnlyGate}, proofs.{Parts.by_code, Histories.sorted_rows}}
use Rattle.gate_plan.proofs.only_gate.OnlyGate.sort.Goals as goal

as_one : (b : Bool) → (if b then 1 else 0) ≡ one_if b
as_one true = refl
as_one false = refl

none_at : (b : Bool) → slice_index (0 ∷ 0 ∷ []) (one_if b) ≡ 0
none_at true = refl
none_at false = refl

-- the groups of an event by its code and its dtime
looked_up : (groups : List GroupView) (only : OnlyGate) (code dtime : ℕ) (e : Event) → e.kind ≡ kind_of code dtime → TellsGroups only groups
    → slice_index (slice_index_or only.groups (min code 256) []) (if is_in_gate dtime only.gate then 1 else 0) ≡ groups_by groups e
looked_up groups only code dtime e is tells =
    let inside = is_in_gate dtime only.gate in
    by_code groups (λ code. slice_index (slice_index_or only.groups code []) (if inside then 1 else 0)) code dtime e is
    (λ low. rw (as_one inside) (tells code dtime low)) (rw (as_one inside, only.markers) (none_at inside))

pub returns-clause-found : goal.returns-clause-found
returns-clause-found c = λ groups tells. search (rules, arith, sorted_rows, looked_up)
