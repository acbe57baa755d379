use Rattle.plan_text.proofs.Misfits.{misfit_named, is_first}
use Rattle.plan_text.proofs.laws.first_misfit.Goals as goal

pub returns : goal.returns
returns c = λ mode view fault. (misfit_named mode view fault, is_first mode view fault)
