use Rattle.{std.proofs.Common.{rules, arith}, tally_base.specs.Columns.gathered, record_stream.proofs.Counted.counted-block}
use Rattle.record_stream.proofs.unwritten.UnwrittenEventTaker.take_block.Goals as goal

pub returns-clause-follows : goal.returns-clause-follows
returns-clause-follows c = λ start l on.
    counted-block start.mode _ start.taken _ start.floor _ l on (gathered c.args.block.now) _ _ (search (rules, arith)) (search (rules, arith)) c.requires.in_order
