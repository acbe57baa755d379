use Rattle.{std.proofs.Common.{◌≡◌, ◌<◌, ℕ, length, get_or, false}, gate_plan.specs.Taking.is_among}
use Rattle.gate_plan.proofs.table.inputs_of.Given as goal

abbrev pub invariant-loop-input : goal.invariant-loop-input
invariant-loop-input l = record {
  sized : length l.has ≡ 256;
  filled : (input : ℕ) → input < l.input → get_or l.has input false ≡ is_among l.inputs input;
}
