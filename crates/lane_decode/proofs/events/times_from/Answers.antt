use Rattle.lane_decode.proofs.Wide.{long-times, times-at}
use Rattle.lane_decode.proofs.events.times_from.Goals as goal

pub returns : goal.returns
returns g c = record {
  lanes = long-times c.args.base c.UNIT.result c.args.wraps c.args.times c.requires.0 c.requires.1;
  each = rw (← c.UNIT.ensures) (times-at c.args.base c.UNIT.result c.args.wraps c.args.times c.requires.0 c.requires.1);
}
