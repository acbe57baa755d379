use Rattle.{std.proofs.Common.{◌≡◌, ◌||◌, drop}, gate_plan.specs.Parting.passes}
use Rattle.gate_plan.proofs.table.passes_some.Given as goal

abbrev pub invariant-gates : goal.invariant-gates
invariant-gates l = record {
  rest : (l.found || passes (drop l.gate-index l.gates) l.dtime) ≡ passes l.gates l.dtime;
}
