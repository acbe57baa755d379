use Rattle.{std.proofs.{Common.{rules, arith}, lemmas.Result.err_from_is_err_and}, trace_work.proofs.TraceSteps.{Traced-late, Traced-one, TracedShort-one}}
use Rattle.trace_work.proofs.trace.TraceLinesEventTaker.take.Goals as goal

pub returns-then-late-clause-follows : goal.returns-then-late-clause-follows
returns-then-late-clause-follows g c =
    λ start l h. rw (c.moved_floor-self.ensures, c.if-late.true) (Traced-late _ _ _ _ _ _ _ _ _ _ _ _ _ _ l c.args.event.now h)

pub returns-in_err-put-clause-broken : goal.returns-in_err-put-clause-broken
returns-in_err-put-clause-broken g c =
    let p = err_from_is_err_and c.from_residual.result c.from_residual.ensures.1 in
    let given = rw (c.shifted.ensures, c.groups.ensures.number) at c.take-line.ensures.given in
    rw p.1
    (λ start l h. rw c.if-late.false
    (TracedShort-one _ _ _ _ _ _ _ _ _ _ _ _ _ _ l _ _ _ c.args.event.now c.take-line.result.items h given (rw c.as_slice.ensures.value at c.in_err-put.ensures.short) c.in_err-put.ensures.empty))

pub returns-clause-follows : goal.returns-clause-follows
returns-clause-follows g c = λ start l h.
    let given = rw (c.shifted.ensures, c.groups.ensures.number) at c.take-line.ensures.given in
    rw (c.moved_floor-self.ensures, c.if-late.false)
    (Traced-one _ _ _ _ _ _ _ _ _ _ _ _ _ _ l _ _ _ c.args.event.now c.take-line.result.items h given (rw c.as_slice.ensures.value at c.in_ok-put.ensures.all) (rw c.if-late.false at c.requires.in_order))

pub take-line-requires : goal.take-line-requires
take-line-requires g c = record { can = search (rules, arith) }
