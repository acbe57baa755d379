use Rattle.command_laws.proofs.Proved.{ends-stay}
use Rattle.command_laws.proofs.an_end_that_is_shown_stays.Goals as goal

pub returns : goal.returns
returns c = ends-stay
