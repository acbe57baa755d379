use Rattle.{std.proofs.Common.{ap, refl, Ok, Err, [], arith, take}, ptu_header.specs.{declared.step.HeaderStep.TheVariants.{Done, Refused}, ReadHeader.goes_on}}
use Rattle.ptu_header.proofs.ReadHeader.{going-due, refused-due, shown-front, reads-of, steps-again, end-answer, done-due, nothing-stays, steps-refused}
use Rattle.ptu_definitions.{specs.Headers.header_answer, proofs.AnswerLemmas.Shows-append}
use Rattle.ptu_header.specs.declared.reader.Phase.TheVariants as Phases
use Rattle.ptu_header.proofs.reader.HeaderReader.feed.Goals as goal

pub returns-in-Preamble-clause-due : goal.returns-in-Preamble-clause-due
returns-in-Preamble-clause-due c = λ bytes h.
    let r = c.args.self.now in
    going-due c.preamble.result r c.preamble.new.self bytes c.args.piece.now (ap goes_on c.in-Preamble.is) h
    (c.preamble.ensures.steps bytes h) c.preamble.ensures.room r.limit c.preamble.new.self.limit

pub returns-in-Tag-clause-due : goal.returns-in-Tag-clause-due
returns-in-Tag-clause-due c = λ bytes h.
    let r = c.args.self.now in
    going-due c.tag.result r c.tag.new.self bytes c.args.piece.now (ap goes_on c.in-Tag.is) h
    (c.tag.ensures.steps bytes h) c.tag.ensures.room r.limit c.tag.new.self.limit

pub returns-in-Body-clause-due : goal.returns-in-Body-clause-due
returns-in-Body-clause-due c = λ bytes h.
    let r = c.args.self.now in
    going-due c.body.result r c.body.new.self bytes c.args.piece.now (ap goes_on c.in-Body.is) h
    (c.body.ensures.steps bytes h) c.body.ensures.room r.limit c.body.new.self.limit

pub returns-in-Refused-clause-step : goal.returns-in-Refused-clause-step
returns-in-Refused-clause-step c = λ bytes h. steps-again c.args.self.now c.in-Refused.fault bytes c.args.piece.now c.in-Refused.is h

pub returns-in-Refused-clause-due : goal.returns-in-Refused-clause-due
returns-in-Refused-clause-due c = λ bytes h.
    let r = c.args.self.now in
    let e = reads-of r.phase (Phases.Refused c.in-Refused.fault) r.carried.items r.taken r.tags r.found r.version bytes c.in-Refused.is h in
    refused-due (Refused c.in-Refused.fault) bytes c.in-Refused.fault refl (shown-front bytes r.taken c.in-Refused.fault e.1)

pub returns-in-Ok-clause-step : goal.returns-in-Ok-clause-step
returns-in-Ok-clause-step c = λ bytes h.
    let r = c.args.self.now in
    let e = reads-of r.phase Phases.End r.carried.items r.taken r.tags r.found r.version bytes c.in-End.is h in
    (refl, h, λ more. end-answer r.found r.version bytes (Ok c.in-Ok.header) e.0 (omega (arith, e.1, r.limit)) c.in-Ok.ensures.answer more)

pub returns-in-Err-clause-step : goal.returns-in-Err-clause-step
returns-in-Err-clause-step c = λ bytes h.
    let r = c.args.self.now in
    let e = reads-of r.phase Phases.End r.carried.items r.taken r.tags r.found r.version bytes c.in-End.is h in
    steps-refused c.refuse.result c.refuse.new.self c.in-Err.fault bytes c.args.piece.now 0 c.refuse.ensures.step c.refuse.ensures.phase
    (omega arith) (omega (arith, e.1, c.refuse.ensures.taken))
    (Shows-append header_answer bytes (take 0 c.args.piece.now) (Err c.in-Err.fault)
    (λ more. end-answer r.found r.version bytes (Err c.in-Err.fault) e.0 (omega (arith, e.1, r.limit)) c.in-Err.ensures.answer more))
    (nothing-stays bytes (take 0 c.args.piece.now) refl)

pub returns-in-Ok-clause-due : goal.returns-in-Ok-clause-due
returns-in-Ok-clause-due c = λ bytes h.
    let r = c.args.self.now in
    let e = reads-of r.phase Phases.End r.carried.items r.taken r.tags r.found r.version bytes c.in-End.is h in
    done-due (Done 0 c.in-Ok.header) bytes c.in-Ok.header refl
    (end-answer r.found r.version bytes (Ok c.in-Ok.header) e.0 (omega (arith, e.1, r.limit)) c.in-Ok.ensures.answer [])

pub returns-in-Err-clause-due : goal.returns-in-Err-clause-due
returns-in-Err-clause-due c = λ bytes h.
    let r = c.args.self.now in
    let e = reads-of r.phase Phases.End r.carried.items r.taken r.tags r.found r.version bytes c.in-End.is h in
    refused-due c.refuse.result bytes c.in-Err.fault c.refuse.ensures.step
    (λ more. end-answer r.found r.version bytes (Err c.in-Err.fault) e.0 (omega (arith, e.1, r.limit)) c.in-Err.ensures.answer more)
