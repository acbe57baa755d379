use Rattle.photon_pick.proofs.CanBeWritten.{before-late}
use Rattle.photon_pick.proofs.laws.those_before_a_late_one_are_written.Goals as goal

pub returns : goal.returns
returns c = before-late
