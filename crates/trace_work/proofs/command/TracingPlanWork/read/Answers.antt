use Rattle.trace_work.proofs.command.TracingPlanWork.read.Goals as goal

pub returns-in-Some-clause-leaves : goal.returns-in-Some-clause-leaves
returns-in-Some-clause-leaves g c = c.read_file.ensures.leaves
