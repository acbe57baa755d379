use Rattle.tally_engine.proofs.Feeds.{engine_within}
use Rattle.tally_engine.proofs.laws.engine_within.Goals as goal

pub returns : goal.returns
returns c = engine_within
