use Rattle.{record_stream.proofs.Lasts.streamed-clear, gate_plan.specs.Groups.sorting_of, trace_work.specs.TraceOutcomes.traced_none}
use Rattle.{trace_work.proofs.TraceFeeds.ends-both, command_work.proofs.RestEnds.not_written}
use Rattle.trace_work.proofs.trace.end_lines.Goals as goal

pub returns-clause-writes : goal.returns-clause-writes
returns-clause-writes g c = λ bytes h holds.
    let fin = c.finish-finished.ensures in
    let it = ends-both _ (λ t. t.trace.now) (λ t. g.O.Sink.state t.out.now) (λ t. t.block) (sorting_of c.args.lines.now.gates.now) _ _ _ (traced_none _ _ _ _ _ _ _)
    (λ l is. record { lines = is.lines; given = is.given; text = rw c.requires.begins.empty at is.text })
    (λ l is. record { lines = is.lines; closed = is.closed; text = rw c.requires.begins.empty at is.text; empty = is.empty })
    c.args.lines.now.trace.now.counting.set.some_width.0 bytes holds _ c.finish-finished.result c.flush-flushed.result (streamed-clear _ _ _ _ _ _ _ bytes h c.requires.going) c.requires.begins.empty c.flush-flushed.ensures.all c.flush-flushed.ensures.short
    (fin.answer (not_written _ c.requires.going) bytes h) in
    rw c.both.ensures (record { writes = it.0; stands = it.1 })
