use Rattle.{std.proofs.Common.{◌≡◌, ◌<◌, ℕ, map, length, get_or, None}, tally_base.specs.Settings.shift_view, gate_plan.specs.Shifting.shift_of}
use Rattle.gate_plan.proofs.shifts.shift_table.Given as goal

abbrev pub invariant-loop-input : goal.invariant-loop-input
invariant-loop-input l = record {
  sized : length l.table ≡ 256;
  filled : (input : ℕ) → input < l.input → get_or l.table input None ≡ shift_of (map shift_view l.shifts) input;
}
