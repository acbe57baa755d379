use Rattle.record_layout.proofs.KindLemmas.{counted_split}
use Rattle.record_layout.proofs.kinds.kinds_of.Goals as goal

pub sum-counts-requires-clause-more_split : goal.sum-counts-requires-clause-more_split
sum-counts-requires-clause-more_split g c = counted_split _ _ c.kinds_in_block.result c.kinds_in_block.ensures
