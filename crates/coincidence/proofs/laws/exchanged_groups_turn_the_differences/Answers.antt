use Rattle.coincidence.proofs.Mirror.{mirrored}
use Rattle.coincidence.proofs.laws.exchanged_groups_turn_the_differences.Goals as goal

pub returns : goal.returns
returns c = mirrored
