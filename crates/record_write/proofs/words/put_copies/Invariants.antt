use Rattle.{std.proofs.Common.replicate, record_write.specs.Writing.PutsWords}
use Rattle.record_write.proofs.words.put_copies.Given as goal

abbrev pub invariant-loop-copy : goal.invariant-loop-copy
invariant-loop-copy g l = PutsWords (g.O.Sink.state l.initial.out) (g.O.Sink.state l.out) l.initial.block l.block (replicate l.copy l.word)
