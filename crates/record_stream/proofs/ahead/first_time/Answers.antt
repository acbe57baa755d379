use Rattle.record_stream.proofs.ahead.first_time.Goals as goal

pub first_event-requires : goal.first_event-requires
first_event-requires g c = rw c.base.ensures.value c.requires.times
