use Rattle.{std.proofs.Common.{ap, sym}, file_work.specs.FileOutcomes.lists}
use Rattle.file_work.proofs.events.EventReaderReader.piece.Goals as goal

pub returns-clause-same : goal.returns-clause-same
returns-clause-same g c = ap lists c.feed_lines.ensures.fed.same_how

pub returns-clause-writes : goal.returns-clause-writes
returns-clause-writes g c = λ bytes h.
    rw (c.out-1.given.1 (sym c.feed_lines.ensures.same)) (c.feed_lines.ensures.writes h.going bytes h.streamed)
