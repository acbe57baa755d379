use Rattle.command_laws.proofs.Proved.{listed-picked}
use Rattle.command_laws.proofs.picked_photons_are_listed.Goals as goal

pub returns : goal.returns
returns c = listed-picked
