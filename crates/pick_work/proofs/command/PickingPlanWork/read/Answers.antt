use Rattle.std.proofs.Common.{arith, rules}
use Rattle.pick_work.proofs.command.PickingPlanWork.read.Goals as goal

pub returns-in-Some-clause-leaves : goal.returns-in-Some-clause-leaves
returns-in-Some-clause-leaves g c = search (rules, arith)
