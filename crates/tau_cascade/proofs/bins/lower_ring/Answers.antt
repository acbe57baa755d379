use Rattle.tau_cascade.proofs.Spread.{stand_both}
use Rattle.tau_cascade.proofs.bins.lower_ring.Goals as goal

pub returns : goal.returns
returns c = stand_both c.slices.ensures.entries c.lower_before-at.ensures c.lower_before.ensures
