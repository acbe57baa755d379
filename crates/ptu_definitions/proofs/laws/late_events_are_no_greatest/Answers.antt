use Rattle.ptu_definitions.proofs.StreamLemmas.{floor_of-marked}
use Rattle.ptu_definitions.proofs.laws.late_events_are_no_greatest.Goals as goal

pub returns : goal.returns
returns c = floor_of-marked
