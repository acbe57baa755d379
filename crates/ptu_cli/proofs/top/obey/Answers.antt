use Rattle.{std.proofs.Common.refl, ptu_cli.proofs.Complete.{alone-quiet, does_as}, command_work.proofs.Once.once-refl}
use Rattle.ptu_cli.proofs.top.obey.Goals as goal

pub returns-in-Count-clause-does : goal.returns-in-Count-clause-does
returns-in-Count-clause-does g c = does_as _ _ _ _ (rw c.in-Count.is at c.in-Some.ensures.request) c.on_file.ensures

pub returns-in-Header-clause-does : goal.returns-in-Header-clause-does
returns-in-Header-clause-does g c = does_as _ _ _ _ (rw c.in-Header.is at c.in-Some.ensures.request) c.on_file-in-Header.ensures

pub returns-in-Events-clause-does : goal.returns-in-Events-clause-does
returns-in-Events-clause-does g c = does_as _ _ _ _ (rw c.in-Events.is at c.in-Some.ensures.request) c.on_file-in-Events.ensures

pub returns-in-Run-clause-does : goal.returns-in-Run-clause-does
returns-in-Run-clause-does g c = does_as _ _ _ _ (rw c.in-Run.is at c.in-Some.ensures.request) c.by_plan.ensures

pub returns-in-Trace-clause-does : goal.returns-in-Trace-clause-does
returns-in-Trace-clause-does g c = does_as _ _ _ _ (rw c.in-Trace.is at c.in-Some.ensures.request) c.by_plan-in-Trace.ensures

pub returns-in-Pick-clause-does : goal.returns-in-Pick-clause-does
returns-in-Pick-clause-does g c = does_as _ _ _ _ (rw c.in-Pick.is at c.in-Some.ensures.request) c.by_plan-in-Pick.ensures

pub returns-in-Demo-clause-does : goal.returns-in-Demo-clause-does
returns-in-Demo-clause-does g c =
    let state = g.I.Inputs.state c.args.inputs.now in
    does_as _ _ _ _ (rw c.in-Demo.is at c.in-Some.ensures.request) (record { answer = c.demo.ensures.answer state; causes = c.demo.ensures.causes state; asks = refl; once = record { inputs = once-refl state _ (alone-quiet _ _ c.demo.result (c.demo.ensures.causes state)); out = c.demo.ensures.once }; files = tt })
