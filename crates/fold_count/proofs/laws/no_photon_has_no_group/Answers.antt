use Rattle.fold_count.proofs.Totals.{none_empty}
use Rattle.fold_count.proofs.laws.no_photon_has_no_group.Goals as goal

pub returns : goal.returns
returns c = λ set h. none_empty set h
