use Rattle.{std.proofs.{Common.{Err, arith, rules}, lemmas.Result.err_from_is_err_and}, settle.specs.Standing.last_time, record_stream.specs.Walking.how_of}
use Rattle.record_stream.proofs.{Settles.floor-most, Rests.{gave_none, broke_one, gave_one}}
use Rattle.record_stream.proofs.settled.give_rest.Goals as goal

pub loop-event-init : goal.loop-event-init
loop-event-init g c = search (rules, arith, gave_none, g.met.S.EventTaker.same_none)

pub loop-event-preserved : goal.loop-event-preserved
loop-event-preserved g c =
    let s = g.S.EventTaker in
    let inv = c.loop-event.invariant in
    let low = last_time c.pop.new.self in
    let gave = c.in_ok-give_event.ensures.gave in
    let bound = floor-most (how_of c.loop-event.walk).mode (s.floor c.loop-event.taker) low c.in-Some.event (search (rules, arith)) (search (rules, arith)) in
    gave_one s _ _ _ (tt {0}) c.loop-event.walk _ _ _ _ _ _ low c.in-Some.event inv c.in-Some.ensures.least gave.got gave.noted c.give_event.ensures.keeps
    (gave.follows low bound) c.in_ok-give_event.ensures.called.cause.kept (g.met.S.EventTaker.same_more _ _ _ inv.same c.give_event.ensures.called.same)

pub returns-in_err-give_event-clause-broken : goal.returns-in_err-give_event-clause-broken
returns-in_err-give_event-clause-broken g c =
    let s = g.S.EventTaker in
    let p = err_from_is_err_and c.from_residual.result c.from_residual.ensures.1 in
    rw (p.1, p.2) (broke_one s _ _ _ {X = Unit {0}} (Err c.in_err-give_event.field-0.0) c.loop-event.walk _ _ _ _ _ _
    c.loop-event.invariant c.in-Some.ensures.least c.in_err-give_event.ensures.broken c.in_err-give_event.ensures.fault c.in_err-give_event.ensures.called.cause)
