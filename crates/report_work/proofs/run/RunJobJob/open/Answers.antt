use Rattle.{std.proofs.lemmas.Result.err_from_is_err_and, plan_text.specs.ReadPlan.plan_view, bench_io.proofs.Texts.WroteText-none}
use Rattle.{command_work.proofs.RestEnds.refused-none, report_work.proofs.Reports.{for-own, reports-same, opens-unopened}}
use Rattle.report_work.proofs.run.RunJobJob.open.Goals as goal

pub returns-in_err-engine-clause-opens : goal.returns-in_err-engine-clause-opens
returns-in_err-engine-clause-opens g c =
    let p = err_from_is_err_and c.from_residual.result c.from_residual.ensures.1 in
    rw (p.1, p.2) (opens-unopened (plan_view c.args.self.now.plan.now) c.args.header.now _ c.in_err-engine.field-0.0 c.in_err-engine.ensures.answer)

pub returns-clause-opens : goal.returns-clause-opens
returns-clause-opens g c = rw c.in_ok-engine.ensures.answer (refused-none _, WroteText-none _ _)

pub returns-clause-tells : goal.returns-clause-tells
returns-clause-tells g c =
    reports-same (plan_view c.args.self.now.plan.now) _ c.args.header.now c.in_ok-engine.ensures.answer c.in_ok-engine.ensures.made.header_is

pub returns-clause-stands : goal.returns-clause-stands
returns-clause-stands g c = record {
  is = for-own c.in_ok-engine.engine (plan_view c.args.self.now.plan.now) c.args.header.now c.in_ok-engine.ensures.made;
  going = c.in_ok-engine.ensures.going;
  fed = c.in_ok-engine.ensures.empty;
}
