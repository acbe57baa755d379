use Rattle.{std.proofs.Common.length, settle.specs.Standing.{kept_back, last_time}, record_stream.specs.Ending.GaveFirst}
use Rattle.record_stream.proofs.settled.give_rest.Given as goal

abbrev pub invariant-loop-event : goal.invariant-loop-event
invariant-loop-event g l = GaveFirst g.S.EventTaker l.fn.walk l.fn.taker (kept_back l.fn.settle) l.walk l.taker (kept_back l.settle) (last_time l.settle)

abbrev pub decreases-loop-event : goal.decreases-loop-event
decreases-loop-event g l = length (kept_back l.settle)
