use Rattle.ptu_definitions.proofs.SeenLaws.{Shows-cut}
use Rattle.ptu_definitions.proofs.laws.no_cut_is_shown.Goals as goal

pub returns : goal.returns
returns c = Shows-cut
