use Rattle.{std.proofs.{Common.{arith, rules}, lemmas.Result.on_ok_weaker}, gate_plan.specs.Groups.sorting_of, trace_work.specs.TraceOutcomes.traced_none}
use Rattle.{trace_work.proofs.TraceFeeds.feeds-on, bench_io.proofs.Texts.{writes-flushed, writes-unflushed}, command_work.proofs.RestEnds.stays-open}
use Rattle.trace_work.proofs.trace.feed_lines.Goals as goal

pub returns-in-Ok-clause-writes : goal.returns-in-Ok-clause-writes
returns-in-Ok-clause-writes g c = λ going bytes h holds.
    let it = feeds-on _ (λ t. t.trace.now) (λ t. g.O.Sink.state t.out.now) (λ t. t.block)
    (sorting_of c.args.lines.now.gates.now) _ _ _ (traced_none _ _ _ _ _ _ _)
    (λ l is. record { lines = is.lines; given = is.given; text = rw c.requires.begins.empty at is.text })
    (λ l is. record { lines = is.lines; closed = is.closed; text = rw c.requires.begins.empty at is.text; empty = is.empty })
    c.args.lines.now.trace.now.counting.set.some_width.0 _ _ holds c.feed-fed.result (c.feed-fed.ensures.fed going bytes h) in
    record { writes = writes-flushed _ _ _ _ _ _ _ c.feed-fed.result c.in-Ok.ensures.all it.0; stands = it.1 }

pub returns-in-Err-clause-writes : goal.returns-in-Err-clause-writes
returns-in-Err-clause-writes g c = λ going bytes h holds.
    let it = feeds-on _ (λ t. t.trace.now) (λ t. g.O.Sink.state t.out.now) (λ t. t.block)
    (sorting_of c.args.lines.now.gates.now) _ _ _ (traced_none _ _ _ _ _ _ _)
    (λ l is. record { lines = is.lines; given = is.given; text = rw c.requires.begins.empty at is.text })
    (λ l is. record { lines = is.lines; closed = is.closed; text = rw c.requires.begins.empty at is.text; empty = is.empty })
    c.args.lines.now.trace.now.counting.set.some_width.0 _ _ holds c.feed-fed.result (c.feed-fed.ensures.fed going bytes h) in
    record { writes = writes-unflushed _ _ _ _ _ _ _ c.feed-fed.result c.in-Err.ensures.short it.0; stands = tt }

pub returns-in-Ok-clause-going : goal.returns-in-Ok-clause-going
returns-in-Ok-clause-going g c = stays-open _ _ _ c.feed-fed.result c.feed-fed.ensures.refused c.feed-fed.ensures.counted

pub returns-in-Ok-clause-fed : goal.returns-in-Ok-clause-fed
returns-in-Ok-clause-fed g c = record { same_how = c.feed-fed.ensures.same_how; taken = c.feed-fed.ensures.taken; limit = c.feed-fed.ensures.limit }

pub returns-in-Err-clause-fed : goal.returns-in-Err-clause-fed
returns-in-Err-clause-fed g c = record { same_how = c.feed-fed.ensures.same_how; taken = c.feed-fed.ensures.taken; limit = c.feed-fed.ensures.limit }

pub returns-in-Ok-clause-behind : goal.returns-in-Ok-clause-behind
returns-in-Ok-clause-behind g c = search (rules, arith, on_ok_weaker)
