use Rattle.std.proofs.Common.{◌≡◌, ◌++◌, take}
use Rattle.record_stream.proofs.letting_go.stay_all.Given as goal

abbrev pub invariant-loop-event : goal.invariant-loop-event
invariant-loop-event l = l.stay.items ≡ l.fn.stay.items ++ take l.event-index l.events
