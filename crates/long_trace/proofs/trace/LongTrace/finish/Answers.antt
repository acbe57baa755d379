use Rattle.{std.proofs.{Common.◌∙◌, lemmas.Result.{on_ok_weaker, on_err_weaker}}, tally_base.specs.Settings.trace_view, long_trace.proofs.Ends.end-adds}
use Rattle.long_trace.proofs.trace.LongTrace.finish.Goals as goal

pub returns-clause-text : goal.returns-clause-text
returns-clause-text g c = λ h is.
    let adds = end-adds (trace_view c.args.self.counting.set) c.args.self.counting c.args.self.closed c.closed_with-closed.result h c.as_slice.result.now is.bins is.before c.closed_with-closed.ensures.frequencies c.closed_with-closed.ensures.many (λ all are many. c.as_slice.ensures.value ∙ c.end_lines.ensures all are many) in
    on_ok_weaker c.write_or_refuse.result (λ wrote. record { more = _; adds = adds; wrote = wrote }) c.write_or_refuse.ensures.text

pub returns-clause-short : goal.returns-clause-short
returns-clause-short g c = λ h is.
    let adds = end-adds (trace_view c.args.self.counting.set) c.args.self.counting c.args.self.closed c.closed_with-closed.result h c.as_slice.result.now is.bins is.before c.closed_with-closed.ensures.frequencies c.closed_with-closed.ensures.many (λ all are many. c.as_slice.ensures.value ∙ c.end_lines.ensures all are many) in
    on_err_weaker c.write_or_refuse.result (λ cut. record { more = _; adds = adds; cut = cut }) c.write_or_refuse.ensures.short
