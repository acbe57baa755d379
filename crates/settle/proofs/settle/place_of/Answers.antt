use Rattle.{std.proofs.Common.{arith, rules}, settle.proofs.Steps.all_before}
use Rattle.settle.proofs.settle.place_of.Goals as goal

pub returns-else-events-at-clause-before : goal.returns-else-events-at-clause-before
returns-else-events-at-clause-before c = search (rules, arith, all_before)
