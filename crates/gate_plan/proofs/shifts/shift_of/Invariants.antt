use Rattle.{std.proofs.Common.{◌≡◌, map, drop}, tally_base.specs.Settings.shift_view, gate_plan.specs.Shifting.shift_of}
use Rattle.gate_plan.proofs.shifts.shift_of.Given as goal

abbrev pub invariant-shifts : goal.invariant-shifts
invariant-shifts l = record {
  rest : shift_of (map shift_view (drop l.set-index l.shifts)) l.input ≡ shift_of (map shift_view l.shifts) l.input;
}
