use Rattle.std.proofs.Common.{arith, rules}
use Rattle.trace_work.proofs.trace.TraceReaderReader.piece.Goals as goal

pub returns-clause-same : goal.returns-clause-same
returns-clause-same g c = search (rules, arith)

pub returns-clause-writes : goal.returns-clause-writes
returns-clause-writes g c = λ bytes h. (c.trace_piece.ensures.writes h.going bytes h.streamed h.traced).writes
