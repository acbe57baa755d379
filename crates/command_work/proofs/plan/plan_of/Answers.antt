use Rattle.std.proofs.{Common.{◌≡◌, ◌+◌, rules, None, take, length, arith, sym, ap, ◌∙◌}, lemmas.{Result.err_from_is_err_and, List.length-take-le}}
use Rattle.{tally_base.specs.declared.slot.Slot.TheVariants.Plan as PlanSlot, plan_text.specs.ReadPlan.text_limit, command_work.proofs.PlanTold.uses-read}
use Rattle.command_work.proofs.{PlanTold.{plan_told, plan-reasons, plan-quiet, ended_short, reading-fails}, Told.all-taken, Once.{quiet-none, once-refl}}
use Rattle.command_work.proofs.Once.{once-none, once-behind, once-opened, once-unopened}
use Rattle.command_work.proofs.plan.plan_of.Goals as goal

pub returns-in-Err-clause-uses : goal.returns-in-Err-clause-uses
returns-in-Err-clause-uses g c = record { keeps = c.in-Err.ensures.keeps; keeps_other = c.in-Err.ensures.keeps_other }

pub returns-in_err-len-clause-uses : goal.returns-in_err-len-clause-uses
returns-in_err-len-clause-uses g c = uses-read _ _ _ _ c.in-Ok-open.ensures.keeps c.in-Ok-open.ensures.keeps_other c.read_text.ensures.reads

pub returns-clause-uses : goal.returns-clause-uses
returns-clause-uses g c = uses-read _ _ _ _ c.in-Ok-open.ensures.keeps c.in-Ok-open.ensures.keeps_other c.read_text.ensures.reads

pub returns-clause-answer : goal.returns-clause-answer
returns-clause-answer g c =
    let size : length c.read_text.new.text ≡ text_limit + 1 = first_of (search (rules, arith), grind arith) in
    let after = g.I.Inputs.state c.read_text.new.inputs in
    plan_told after ((g.I.Inputs.state c.open.new.self).given PlanSlot) (take c.in_ok-len.len c.read_text.new.text) c.read_plan.result c.in-Ok-open.ensures.given (ap (λ f. f PlanSlot) c.read_text.ensures.reads.opens_none.opened ∙ c.in-Ok-open.ensures.opened) c.in_ok-len.ensures.filled.taken
    (ended_short (text_limit + 1) c.in_ok-len.len c.read_text.new.text (after.given PlanSlot)
    size c.in_ok-len.ensures.filled.room c.in_ok-len.ensures.filled.ended)
    c.read_plan.ensures.answer

pub returns-clause-reason : goal.returns-clause-reason
returns-clause-reason g c =
    let size : length c.read_text.new.text ≡ text_limit + 1 = first_of (search (rules, arith), grind arith) in
    let after = g.I.Inputs.state c.read_text.new.inputs in
    plan-reasons _ _ _ after ((g.I.Inputs.state c.open.new.self).given PlanSlot) (take c.in_ok-len.len c.read_text.new.text) c.read_plan.result c.in-Ok-open.ensures.given (ap (λ f. f PlanSlot) c.read_text.ensures.reads.opens_none.opened ∙ c.in-Ok-open.ensures.opened) c.in_ok-len.ensures.filled.taken
    (ended_short (text_limit + 1) c.in_ok-len.len c.read_text.new.text (after.given PlanSlot)
    size c.in_ok-len.ensures.filled.room c.in_ok-len.ensures.filled.ended)
    c.read_plan.ensures.inside c.read_plan.ensures.refused

pub returns-in-Err-clause-takes : goal.returns-in-Err-clause-takes
returns-in-Err-clause-takes g c = λ opened. cc (g.met.I.Inputs.asked_first c.args.inputs.now PlanSlot (sym c.in-Err.ensures.unopened ∙ opened), c.requires.first)

pub returns-in_err-len-clause-takes : goal.returns-in_err-len-clause-takes
returns-in_err-len-clause-takes g c =
    let size : length c.as_mut_slice-text.result.now ≡ text_limit + 1 = first_of (search (rules, arith), grind arith) in
    search (rules, arith, all-taken)

pub returns-clause-takes : goal.returns-clause-takes
returns-clause-takes g c =
    let size : length c.read_text.new.text ≡ text_limit + 1 = first_of (search (rules, arith), grind arith) in
    search (rules, arith, length-take-le, all-taken)

pub returns-in-Err-clause-once : goal.returns-in-Err-clause-once
returns-in-Err-clause-once g c =
    once-unopened PlanSlot _ _ _ (once-refl _ None quiet-none) c.in-Err.ensures.keeps_other c.open.ensures.reads c.in-Err.ensures.cause.once

pub returns-in_err-len-clause-once : goal.returns-in_err-len-clause-once
returns-in_err-len-clause-once g c =
    let p = err_from_is_err_and c.from_residual.result c.from_residual.ensures.1 in
    rw (p.1, p.2) (once-behind _ _ _ _ (once-opened PlanSlot _ _ _
    (once-refl _ None quiet-none) c.in-Ok-open.ensures.keeps_other c.open.ensures.reads c.in-Ok-open.ensures.cause.kept) c.in_err-len.ensures.once)

pub returns-clause-once : goal.returns-clause-once
returns-clause-once g c = once-none _ _ _ (plan-quiet c.read_plan.result c.read_plan.ensures.inside) (once-behind _ _ _ None (once-opened PlanSlot _ _ _ (once-refl _ None quiet-none) c.in-Ok-open.ensures.keeps_other c.open.ensures.reads c.in-Ok-open.ensures.cause.kept) c.in_ok-len.ensures.once)

pub returns-in-Err-clause-names : goal.returns-in-Err-clause-names
returns-in-Err-clause-names g c = λ opened. cc (g.met.I.Inputs.asked_first c.args.inputs.now PlanSlot (sym c.in-Err.ensures.unopened ∙ opened), c.requires.first)

pub returns-in_err-len-clause-names : goal.returns-in_err-len-clause-names
returns-in_err-len-clause-names g c = search (rules, arith)

pub returns-clause-names : goal.returns-clause-names
returns-clause-names g c = search (rules, arith)

pub returns-in_err-len-clause-reason : goal.returns-in_err-len-clause-reason
returns-in_err-len-clause-reason g c =
    let p = err_from_is_err_and c.from_residual.result c.from_residual.ensures.1 in
    let size : length c.as_mut_slice-text.result.now ≡ text_limit + 1 = first_of (search (rules, arith), grind arith) in
    let unread = c.in_err-len.ensures.unread in
    rw (p.1, p.2) (reading-fails (g.I.Inputs.state c.args.inputs.now) (g.I.Inputs.state c.open.new.self) (g.I.Inputs.state c.read_text.new.inputs) ((g.I.Inputs.state c.open.new.self).given PlanSlot) unread.0 _ c.in-Ok-open.ensures.given
    (ap (λ f. f PlanSlot) c.read_text.ensures.reads.opens_none.opened ∙ c.in-Ok-open.ensures.opened) c.open.ensures.reads
    c.in_err-len.ensures.reason.0 c.in_err-len.ensures.reason.1 unread.1 (omega (arith, size, unread.2)) c.in_err-len.ensures.unended)
