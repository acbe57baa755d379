use Rattle.std.proofs.Common.{rules, arith, ◌≡◌, ◌==◌, ◌↔◌, Bool, List, [], ◌∷◌, map, length, not, false}
use Rattle.tally_base.specs.{declared.settings.ShiftSet.ShiftSet, Settings.shift_view}
use Rattle.gate_plan.proofs.gates.Gates.has_shifts.Goals as goal

none_viewed : (sets : List ShiftSet) (none : Bool) → none ≡ (length sets == 0) → (not none ≡ false) ↔ (map shift_view sets ≡ [])
none_viewed [] none is = search (rules, arith)
none_viewed (set ∷ sets) none is = search (rules, arith)

pub returns : goal.returns
returns c = none_viewed c.args.self.now.shifts.items c.is_empty.result c.is_empty.ensures
