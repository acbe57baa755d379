use Rattle.{std.proofs.lemmas.Result.err_from_is_err_and, plan_text.specs.ReadPlan.plan_view, report_work.proofs.Reports.{ends-refused, ends-reported}}
use Rattle.report_work.proofs.run.RunReaderReader.end.Goals as goal

pub returns-in_err-results : goal.returns-in_err-results
returns-in_err-results g c = λ bytes h.
    let p = err_from_is_err_and c.from_residual.result c.from_residual.ensures.1 in
    rw (p.1, p.2)
    (ends-refused (plan_view c.args.self.plan.now) c.args.self.engine bytes h.is c.in_err-results.field-0.0 _ (c.in_err-results.ensures bytes h.fed))

pub returns : goal.returns
returns g c = λ bytes h. ends-reported (plan_view c.args.self.plan.now) c.args.self.engine bytes h.is c.in_ok-results.results (c.in_ok-results.ensures bytes h.fed) c.write_report.result _ _ c.write_report.ensures.text c.write_report.ensures.short c.write_report.ensures.fault

pub write_report-requires : goal.write_report-requires
write_report-requires g c = record { closed = (c.in_ok-results.ensures c.requires.0 c.requires.1.fed).closed }
