use Rattle.record_stream.proofs.{Wraps.refused-bytes, Lasts.{streamed-shown, fed-shown}}
use Rattle.record_stream.proofs.stream.RecordStream.feed.Goals as goal

pub returns-in-Some-clause-taken : goal.returns-in-Some-clause-taken
returns-in-Some-clause-taken g c = λ bytes h. rw c.in-Some.is (λ inside. refused-bytes _ bytes c.args.piece.now _ ((rw c.in-Some.is at h) inside))

pub returns-in-Some-clause-shown : goal.returns-in-Some-clause-shown
returns-in-Some-clause-shown g c = λ bytes h inside. streamed-shown _ _ _ (refused-bytes _ bytes c.args.piece.now _ ((rw c.in-Some.is at h) inside))

pub returns-in-Err-clause-shown : goal.returns-in-Err-clause-shown
returns-in-Err-clause-shown g c = λ bytes h. fed-shown g.S.EventTaker (Unit {0}) _ _ _ _ _ _ (c.in-Err.ensures.fed bytes (rw c.in_default.is at h))
