use Rattle.{std.proofs.Common.{arith, rules}, pick_work.proofs.Picked.writes-headed}
use Rattle.pick_work.proofs.pick.PickReaderReader.piece.Goals as goal

pub returns-clause-same : goal.returns-clause-same
returns-clause-same g c = search (rules, arith)

pub returns-clause-writes : goal.returns-clause-writes
returns-clause-writes g c = λ bytes h. writes-headed _ _ _ _ _ _ c.pick_piece.result (c.pick_piece.ensures.writes bytes h.streamed h.picked).0
