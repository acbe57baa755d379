use Rattle.std.proofs.{Common.{ℕ, List, refl, sym, ap, ◌∙◌, subst, inl}, lemmas.Result.{IfErr-weaker, err_from_is_err_and}}
use Rattle.{std.specs.declared.option.Option.Option, tally_base.specs.declared.slot.Slot.TheVariants.Data, bench_io.specs.Inputs.{File, IsOpened}}
use Rattle.{bench_io.proofs.Bytes.Wrote-nil, plan_text.specs.ReadPlan.plan_view, command_work.specs.Endings.{span, HasCauses}}
use Rattle.command_work.proofs.PlanTold.{KeepsOther-trans, has-plan, data-unasked, has-later, none-lacking, names-later, takes-later, answers-unplanned}
use Rattle.command_work.proofs.{PlanTold.{unplanned-causes, answers-lacking, lacking-causes, plan-answers, plan-causes, plan-files}, Told.few-told}
use Rattle.command_work.proofs.Once.{Rose-kept, quiet-inside, out-inside, out-unwritten, once-none, once-behind, once-opened, once-unopened}
use Rattle.command_work.proofs.work.by_plan.Goals as goal

pub returns-in_err-plan : goal.returns-in_err-plan
returns-in_err-plan g c =
    let before = g.I.Inputs.state c.args.inputs.now in
    let after = g.I.Inputs.state c.plan_of.new.inputs in
    let fault = c.in_err-plan.field-0.0 in
    let p = err_from_is_err_and c.from_residual.result c.from_residual.ensures.1 in
    rw (p.1, p.2) (record {
      answer = answers-unplanned _ _ _ _ _ _ after fault _ c.in_err-plan.ensures.answer;
      causes = unplanned-causes _ _ _ _ _ _ before after _ fault c.plan_of.ensures.uses.keeps_other (c.requires.first Data) c.in_err-plan.ensures.reason;
      asks = (c.plan_of.ensures.takes, data-unasked before after (c.requires.first Data) c.plan_of.ensures.uses.keeps_other, g.met.I.Inputs.asked_first c.plan_of.new.inputs Data);
      once = record { inputs = c.in_err-plan.ensures.once; out = out-unwritten _ _ _ fault _ c.in_err-plan.ensures.reason };
      files = plan-files c.args.plan_name.now c.args.data_name.now before after c.plan_of.ensures.names
          (λ opened. data-unasked before after (c.requires.first Data) c.plan_of.ensures.uses.keeps_other (g.met.I.Inputs.asked_first c.plan_of.new.inputs Data opened))
          (g.met.I.Inputs.agrees c.plan_of.new.inputs);
    })

pub returns-in-Some : goal.returns-in-Some
returns-in-Some g c =
    let before = g.I.Inputs.state c.args.inputs.now in
    let after = g.I.Inputs.state c.plan_of.new.inputs in
    record {
      answer = answers-lacking _ _ _ _ _ _ after c.in_ok-plan.plan c.in-Some.fault _ c.in_ok-plan.ensures.answer (sym c.in-Some.ensures.answer);
      causes = lacking-causes _ _ _ _ _ _ _ c.in-Some.fault c.in-Some.ensures.inside;
      asks = (c.plan_of.ensures.takes, data-unasked before after (c.requires.first Data) c.plan_of.ensures.uses.keeps_other, g.met.I.Inputs.asked_first c.plan_of.new.inputs Data);
      once = record { inputs = once-none _ _ _ (quiet-inside c.in-Some.fault c.in-Some.ensures.inside) c.in_ok-plan.ensures.once; out = out-inside c.in-Some.fault _ _ c.in-Some.ensures.inside refl };
      files = plan-files c.args.plan_name.now c.args.data_name.now before after c.plan_of.ensures.names
          (λ opened. data-unasked before after (c.requires.first Data) c.plan_of.ensures.uses.keeps_other (g.met.I.Inputs.asked_first c.plan_of.new.inputs Data opened))
          (g.met.I.Inputs.agrees c.plan_of.new.inputs);
    }

pub returns-in-Err : goal.returns-in-Err
unfolding HasCauses
returns-in-Err g c =
    let before = g.I.Inputs.state c.args.inputs.now in
    let planned = g.I.Inputs.state c.plan_of.new.inputs in
    let after = g.I.Inputs.state c.open.new.self in
    let it = c.args.work.now in
    let does = g.W.PlanWork in
    let view = plan_view c.in_ok-plan.plan in
    let has = has-later planned after (does.lacking it) view c.open.ensures.keeps_other (has-plan planned (does.lacking it) c.in_ok-plan.plan c.in_ok-plan.ensures.answer (none-lacking _ c.lacks.result c.lacks.ensures.answer c.in_default.not-Some)) in
    record {
      answer = inl refl;
      causes = ((view, has), Rose-kept _ _ _ (c.in_ok-plan.ensures.once.openings Data) c.in-Err.ensures.cause.once, Wrote-nil _);
      asks = (
        takes-later planned after c.plan_of.ensures.takes c.open.ensures.keeps_other,
        λ asked. (view, has, λ opened. data-unasked before planned (c.requires.first Data) c.plan_of.ensures.uses.keeps_other (g.met.I.Inputs.asked_first c.plan_of.new.inputs Data (sym c.in-Err.ensures.unopened ∙ opened))),
        g.met.I.Inputs.asked_first c.open.new.self Data,
      );
      once = record { inputs = once-unopened Data _ _ _ c.in_ok-plan.ensures.once c.open.ensures.keeps_other c.open.ensures.reads c.in-Err.ensures.cause.once; out = refl };
      files = plan-files c.args.plan_name.now c.args.data_name.now before after (names-later before planned after c.args.plan_name.now c.plan_of.ensures.names c.open.ensures.keeps_other)
          (λ opened. data-unasked before planned (c.requires.first Data) c.plan_of.ensures.uses.keeps_other (g.met.I.Inputs.asked_first c.plan_of.new.inputs Data (sym c.in-Err.ensures.unopened ∙ opened)))
          (g.met.I.Inputs.agrees c.open.new.self);
    }

pub returns-in-Ok : goal.returns-in-Ok
returns-in-Ok g c =
    let before = g.I.Inputs.state c.args.inputs.now in
    let planned = g.I.Inputs.state c.plan_of.new.inputs in
    let opened = g.I.Inputs.state c.open.new.self in
    let after = g.I.Inputs.state c.read.new.inputs in
    let it = c.args.work.now in
    let does = g.W.PlanWork in
    let view = plan_view c.in_ok-plan.plan in
    let kept = KeepsOther-trans Data planned opened after c.open.ensures.keeps_other c.read.ensures.reads.keeps_other in
    let has = has-later planned after (does.lacking it) view kept (has-plan planned (does.lacking it) c.in_ok-plan.plan c.in_ok-plan.ensures.answer (none-lacking _ c.lacks.result c.lacks.ensures.answer c.in_default.not-Some)) in
    let once = once-opened Data before planned opened c.in_ok-plan.ensures.once c.open.ensures.keeps_other c.open.ensures.reads c.in-Ok.ensures.cause.kept in
    let is_open = ap (λ f. f Data) c.read.ensures.reads.opens_none.opened ∙ c.in-Ok.ensures.opened in
    let read = span g.I.Inputs g.O.Sink c.open.new.self c.read.new.inputs c.args.out.now c.read.new.out in
    record {
      answer = plan-answers _ _ _ _ _ _ view after _ _ _ c.read.result has c.in-Ok.ensures.given is_open c.read.ensures.leaves.answer;
      causes = IfErr-weaker c.read.result _ _ (λ fault h. plan-causes _ _ _ _ _ _ view before read fault has c.in-Ok.ensures.given is_open once h) c.read.ensures.leaves.reason;
      asks = (
        takes-later planned after c.plan_of.ensures.takes kept,
        λ asked. (view, has, λ was. few-told (does.work it view) after _ c.in-Ok.ensures.given c.read.ensures.leaves.few),
        g.met.I.Inputs.asked_first c.read.new.inputs Data,
      );
      once = record { inputs = once-behind before opened _ _ once c.read.ensures.leaves.once.inputs; out = c.read.ensures.leaves.once.out };
      files = plan-files c.args.plan_name.now c.args.data_name.now before after (names-later before planned after c.args.plan_name.now c.plan_of.ensures.names kept)
          (λ was. subst (λ (told : Option (List ℕ)). IsOpened (before.contents c.args.data_name.now) told) (sym (ap (λ f. f Data) c.read.ensures.reads.opens_none.told))
          (subst (λ (contents : Option File). IsOpened contents (opened.told Data)) (ap (λ f. f c.args.data_name.now) c.plan_of.ensures.uses.keeps.contents) c.in-Ok.ensures.file))
          (g.met.I.Inputs.agrees c.read.new.inputs);
    }

pub read-requires-clause-whole : goal.read-requires-clause-whole
read-requires-clause-whole g c = none-lacking _ c.lacks.result c.lacks.ensures.answer c.in_default.not-Some
