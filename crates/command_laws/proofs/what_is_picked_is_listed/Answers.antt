use Rattle.command_laws.proofs.PickEnds.{pick-is-listed}
use Rattle.command_laws.proofs.what_is_picked_is_listed.Goals as goal

pub returns : goal.returns
returns c = pick-is-listed
