use Rattle.{std.proofs.Common.{rules, arith}, tau_cascade.proofs.Places.stands_halved}
use Rattle.tau_cascade.proofs.grid.Grid.halve.Goals as goal

pub returns-clause-halves : goal.returns-clause-halves
returns-clause-halves c = search (rules, arith, stands_halved)
