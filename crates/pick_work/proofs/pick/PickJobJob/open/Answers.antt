use Rattle.{std.proofs.{Common.{◌∙◌, sym, ap, arith, rules}, lemmas.Result.err_from_is_err_and}, ptu_definitions.specs.Streams.StreamSettings}
use Rattle.{plan_text.specs.ReadPlan.plan_view, gate_plan.specs.{Histories.reading_by, Groups.sorting_of}, record_stream.specs.Standing.how_of}
use Rattle.{photon_pick.proofs.Stays.has-none, command_work.proofs.RestEnds.{opens-misfit, opens-wrote, opens-cut}, pick_work.specs.PickOutcomes.chosen_by}
use Rattle.pick_work.{specs.PickOutcomes.picks, proofs.Picked.{picks-start, picks-none, picks-same}}
use Rattle.pick_work.proofs.pick.PickJobJob.open.Goals as goal

pub returns-in_err-fits-clause-opens : goal.returns-in_err-fits-clause-opens
returns-in_err-fits-clause-opens g c = search (rules, arith, err_from_is_err_and, opens-misfit)

pub returns-in_err-start-clause-opens : goal.returns-in_err-start-clause-opens
returns-in_err-start-clause-opens g c =
    let p = err_from_is_err_and c.from_residual-in_err-start.result c.from_residual-in_err-start.ensures.1 in
    let job = c.args.self.now in
    let suits = sym (rw c.mode-mode.ensures at c.in_ok-fits.ensures.answer) in
    let short = rw (c.new-picker.ensures.mode, c.mode-mode.ensures) at c.in_err-start.ensures.short in
    rw (p.1, p.2, suits) (opens-cut (Unit {0}) (picks (chosen_by (plan_view job.plan.now) job.group) (reading_by (plan_view job.plan.now) c.args.header.now)) _ _ _ c.in_err-start.field-0.0 _ (picks-start _ _) c.in_err-start.ensures.fault short)

pub returns-clause-opens : goal.returns-clause-opens
returns-clause-opens g c =
    let job = c.args.self.now in
    let suits = sym (rw c.mode-mode.ensures at c.in_ok-fits.ensures.answer) in
    let wrote = rw (c.new-picker.ensures.mode, c.mode-mode.ensures) at c.in_ok-start.ensures.all in
    rw suits (opens-wrote (Unit {0}) (picks (chosen_by (plan_view job.plan.now) job.group) (reading_by (plan_view job.plan.now) c.args.header.now)) ⊥ _ _ tt _ (picks-start _ _) (picks-none _ _ c.new-picker.result c.new-picker.ensures.none) wrote)

pub returns-clause-tells : goal.returns-clause-tells
returns-clause-tells g c =
    let suits = sym (rw c.mode-mode.ensures at c.in_ok-fits.ensures.answer) in
    picks-same c.args.self.now.group (plan_view c.args.self.now.plan.now) c.args.header.now (sorting_of c.of-gates.result)
    (how_of c.new-stream.result) suits c.of-gates.ensures.sorting c.new-stream.ensures.how

pub returns-clause-stands : goal.returns-clause-stands
returns-clause-stands g c =
    let starts = c.in_ok-start.ensures.starts in
    let none = starts.same_last ∙ c.new-picker.ensures.none in
    record {
      going = c.new-stream.ensures.unrefused;
      behind = record {
        going = starts.going;
        same_mode = starts.same_mode ∙ c.new-picker.ensures.mode ∙ c.mode-mode.ensures ∙ sym (ap (λ (how : StreamSettings). how.mode) c.new-stream.ensures.how);
        before = omega (arith, none);
      };
      streamed = c.new-stream.ensures.empty;
      picked = has-none _ _ _ none;
    }
