use Rattle.{std.proofs.Common.{arith, rules, refl, inl, true, false, ◌∙◌}, record_stream.proofs.Settles.{told_none, tells_one, late_follows}}
use Rattle.record_stream.proofs.walk.Walk.take_event.Goals as goal

pub returns-then-stops_late-clause-tells : goal.returns-then-stops_late-clause-tells
returns-then-stops_late-clause-tells g c = λ earlier l so come.
    let j = c.settle_event-settled.ensures.judges earlier l so come in
    inl (search (rules, arith, j), refl)

pub returns-then-settled-clause-tells : goal.returns-then-settled-clause-tells
returns-then-settled-clause-tells g c = λ earlier l so come.
    let j = c.settle_event-settled.ensures.judges earlier l so come in
    tells_one g.S.EventTaker c.give_event.result c.args.self.now c.give_event.new.self c.settle_event-settled.new.settle _ _ earlier l c.args.event c.args.event true _
    (search (rules, arith, j)) (j.tells ∙ rw c.if-settled.true refl) (rw c.if-settled.true at j.come)
    c.give_event.ensures.gave c.give_event.ensures.broken c.give_event.ensures.fault c.give_event.ensures.called.cause

pub returns-in-Some-clause-tells : goal.returns-in-Some-clause-tells
returns-in-Some-clause-tells g c = λ earlier l so come.
    let j = c.settle_event-settled.ensures.judges earlier l so come in
    tells_one g.S.EventTaker c.give_event-in-Some.result c.args.self.now c.give_event-in-Some.new.self c.settle_event-settled.new.settle _ _ earlier l c.args.event c.in-Some.first false _
    (search (rules, arith, j)) (j.tells ∙ rw (c.if-settled.false, c.in-Some.is) refl) (rw (c.if-settled.false, c.in-Some.is) at j.come)
    c.give_event-in-Some.ensures.gave c.give_event-in-Some.ensures.broken c.give_event-in-Some.ensures.fault c.give_event-in-Some.ensures.called.cause

pub returns-in-None-clause-tells : goal.returns-in-None-clause-tells
returns-in-None-clause-tells g c = λ earlier l so come.
    let j = c.settle_event-settled.ensures.judges earlier l so come in
    told_none g.S.EventTaker _ _ _ _ earlier l c.args.event _ (search (rules, arith, j)) (j.tells ∙ rw (c.if-settled.false, c.in-None.is) refl) (rw (c.if-settled.false, c.in-None.is) at j.come)

pub returns-then-settled-clause-goes_on : goal.returns-then-settled-clause-goes_on
returns-then-settled-clause-goes_on g c = search (rules, arith, late_follows)
