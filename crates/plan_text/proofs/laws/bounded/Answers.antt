use Rattle.plan_text.proofs.Bound.{bounded}
use Rattle.plan_text.proofs.laws.bounded.Goals as goal

pub returns-clause-most : goal.returns-clause-most
returns-clause-most c = bounded
