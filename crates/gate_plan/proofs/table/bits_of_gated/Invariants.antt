use Rattle.{std.proofs.Common.{◌≡◌, ◌+◌, drop, sum_by}, gate_plan.specs.Parting.{gated_bit, gated_sum}}
use Rattle.gate_plan.proofs.table.bits_of_gated.Given as goal

abbrev pub invariant-gated : goal.invariant-gated
invariant-gated l = record {
  rest : l.bits + sum_by (gated_bit l.input l.dtime) (drop l.group-index l.gated) ≡ gated_sum l.gated l.input l.dtime;
}
