use Rattle.command_laws.proofs.Proved.{one-outcome}
use Rattle.command_laws.proofs.one_outcome.Goals as goal

pub returns : goal.returns
returns c = one-outcome
