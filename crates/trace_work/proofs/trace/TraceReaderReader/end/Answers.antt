use Rattle.trace_work.proofs.trace.TraceReaderReader.end.Goals as goal

pub returns : goal.returns
returns g c = λ bytes h. c.end_trace.ensures bytes h.streamed h.traced
