use Rattle.{std.proofs.{Common.{◌≡◌, refl, ap, ◌∙◌, inl}, lemmas.Result.err_from_is_err_and}, tally_base.specs.declared.slot.Slot.TheVariants.Data}
use Rattle.{bench_io.proofs.Bytes.Wrote-nil, plan_text.specs.ReadPlan.plan_view, report_work.{specs.Demo.demo_plan, proofs.Reports.{demo-view, plan-wanted}}}
use Rattle.{report_work.proofs.Reports.{ends-demo, demo-causes}, command_work.{specs.Endings.HasCauses, proofs.Told.alone-answers}}
use Rattle.report_work.proofs.made.demo.Goals as goal

pub returns-in_err-plan-clause-answer : goal.returns-in_err-plan-clause-answer
returns-in_err-plan-clause-answer g c = λ state.
    let p = err_from_is_err_and c.from_residual.result c.from_residual.ensures.1 in
    let wanted = plan-wanted c.in_err-plan.field-0.0 c.in_err-plan.ensures.answer in
    rw (p.1, p.2, wanted) (inl refl)

pub returns-in_err-plan-clause-causes : goal.returns-in_err-plan-clause-causes
unfolding HasCauses
returns-in_err-plan-clause-causes g c = λ state.
    let p = err_from_is_err_and c.from_residual.result c.from_residual.ensures.1 in
    let wanted = plan-wanted c.in_err-plan.field-0.0 c.in_err-plan.ensures.answer in
    rw (p.1, p.2, wanted) (refl, Wrote-nil _)

pub returns-in_err-plan-clause-once : goal.returns-in_err-plan-clause-once
returns-in_err-plan-clause-once g c =
    let p = err_from_is_err_and c.from_residual.result c.from_residual.ensures.1 in
    let wanted = plan-wanted c.in_err-plan.field-0.0 c.in_err-plan.ensures.answer in
    rw (p.1, p.2, wanted) refl

pub returns-clause-answer : goal.returns-clause-answer
returns-clause-answer g c = λ state.
    let view : plan_view c.in_ok-plan.plan ≡ demo_plan = demo-view c.in_ok-plan.plan c.in_ok-plan.ensures.answer in
    let told = ap (λ f. f Data) c.read_file.ensures.reads.opens_none.told ∙ c.made_data-made.ensures.told in
    alone-answers _ state _ _ _ (ends-demo c.args.seed c.args.count (plan_view c.in_ok-plan.plan) c.requires view
    c.read_file.new.inputs _ _ _ c.read_file.result c.made_data-made.ensures.given told c.read_file.ensures.leaves.answer)

pub returns-clause-causes : goal.returns-clause-causes
returns-clause-causes g c = λ state.
    let view : plan_view c.in_ok-plan.plan ≡ demo_plan = demo-view c.in_ok-plan.plan c.in_ok-plan.ensures.answer in
    let told = ap (λ f. f Data) c.read_file.ensures.reads.opens_none.told ∙ c.made_data-made.ensures.told in
    demo-causes c.args.seed c.args.count (plan_view c.in_ok-plan.plan) c.requires view c.made_data-made.result c.read_file.new.inputs state _ _ c.read_file.result c.made_data-made.ensures.given told c.read_file.ensures.leaves.reason

pub returns-clause-once : goal.returns-clause-once
returns-clause-once g c = c.read_file.ensures.leaves.once.out
