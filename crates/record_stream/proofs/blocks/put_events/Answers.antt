use Rattle.std.proofs.Common.{arith}
use Rattle.record_stream.proofs.blocks.put_events.Goals as goal

pub put_events-requires-clause-places : goal.put_events-requires-clause-places
put_events-requires-clause-places g c = omega (arith, c.placed.ensures.value, c.requires.reach.places)

pub put_events-requires-clause-times : goal.put_events-requires-clause-times
put_events-requires-clause-times g c = rw c.base.ensures.value c.requires.reach.times

pub returns : goal.returns
returns g c = record { more = rw (c.placed.ensures.value, c.base.ensures.value) at c.put_events.ensures.more; unsorted = c.put_events.ensures.unsorted }
