use Rattle.report_work.proofs.run.ReportingPlanWork.read.Goals as goal

pub returns-clause-leaves : goal.returns-clause-leaves
returns-clause-leaves g c = c.read_file.ensures.leaves
