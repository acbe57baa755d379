use Rattle.{std.proofs.Common.{rules, arith}, record_stream.proofs.Counted.counted-one}
use Rattle.record_stream.proofs.unwritten.UnwrittenEventTaker.take.Goals as goal

pub returns-then-not-late-clause-follows : goal.returns-then-not-late-clause-follows
returns-then-not-late-clause-follows c = λ start l on.
    counted-one start.mode _ start.taken _ start.floor _ l on c.args.event.now c.args.late _ (search (rules, arith)) c.requires.in_order

pub returns-else-is_ordered-clause-follows : goal.returns-else-is_ordered-clause-follows
returns-else-is_ordered-clause-follows c = λ start l on.
    counted-one start.mode _ start.taken _ start.floor _ l on c.args.event.now c.args.late _ (search (rules, arith)) c.requires.in_order
