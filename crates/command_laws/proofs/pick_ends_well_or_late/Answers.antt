use Rattle.command_laws.proofs.PickEnds.{pick-ends}
use Rattle.command_laws.proofs.pick_ends_well_or_late.Goals as goal

pub returns : goal.returns
returns c = pick-ends
