use Rattle.plan_text.proofs.Called.{called, valid, answers, plans}
use Rattle.plan_text.proofs.laws.one_answer.Goals as goal

pub returns-clause-refused : goal.returns-clause-refused
returns-clause-refused c = λ bytes fault. (called bytes fault, answers bytes fault)

pub returns-clause-valid : goal.returns-clause-valid
returns-clause-valid c = valid

pub returns-clause-plan : goal.returns-clause-plan
returns-clause-plan c = plans
