use Rattle.{std.proofs.Common.{arith, rules}, file_work.proofs.Ends.{takes-piece, writes-piece}}
use Rattle.file_work.proofs.counting.CountReaderReader.piece.Goals as goal

pub returns-clause-writes : goal.returns-clause-writes
returns-clause-writes g c =
    λ bytes h. writes-piece c.args.self.now.header bytes c.args.piece.now _ c.feed.result (c.feed.ensures.limit _ bytes h.counted) c.feed.ensures.fault

pub returns-clause-takes : goal.returns-clause-takes
returns-clause-takes g c = search (rules, arith, takes-piece)
