use Rattle.{std.proofs.Common.ap, plan_text.specs.ReadPlan.plan_view, report_work.{specs.Reports.reports, proofs.Reports.{writes-fed, takes-fed}}}
use Rattle.report_work.proofs.run.RunReaderReader.piece.Goals as goal

pub returns-clause-same : goal.returns-clause-same
returns-clause-same g c = ap (reports (plan_view c.args.self.now.plan.now)) c.feed_engine.ensures.same.same_header

pub returns-clause-writes : goal.returns-clause-writes
returns-clause-writes g c = λ bytes h. writes-fed (plan_view c.args.self.now.plan.now) c.args.self.now.engine
    bytes c.args.piece.now _ c.feed_engine.result h.is (c.feed_engine.ensures.answer h.going bytes h.fed)

pub returns-clause-takes : goal.returns-clause-takes
returns-clause-takes g c = takes-fed (plan_view c.args.self.now.plan.now) c.args.self.now.engine c.feed_engine.new.engine c.args.piece.now c.feed_engine.result c.feed_engine.ensures.same c.feed_engine.ensures.refused c.feed_engine.ensures.taken
