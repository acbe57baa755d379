use Rattle.{std.proofs.Common.{arith, rules}, ptu_definitions.specs.Times.events, record_stream.proofs.{Settles.none-is, Lasts.{at_none, come_none}}}
use Rattle.record_stream.proofs.stream.RecordStream.new.Goals as goal

pub returns-clause-empty : goal.returns-clause-empty
returns-clause-empty c = search (rules, arith, at_none, come_none)

pub returns-clause-none : goal.returns-clause-none
unfolding events
returns-clause-none c = record { given = search rules; greatest = none-is _ _ _ c.new.ensures.empty.greatest c.new-2.ensures.low; none = search rules }
