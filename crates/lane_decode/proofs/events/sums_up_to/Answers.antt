use Rattle.lane_decode.proofs.Prefix.{sums-are, long-sums}
use Rattle.lane_decode.proofs.events.sums_up_to.Goals as goal

pub returns : goal.returns
returns c = record { lanes = long-sums c.args.eight c.requires.0; each = sums-are c.args.eight c.requires.0 c.requires.1 }
