use Rattle.std.proofs.{Common.{◌∙◌, ◌≡◌, sym, ap, arith, rules, [], Some, Ok, append-nil}, lemmas.Result.err_from_is_err_and}
use Rattle.tally_base.specs.{declared.{settings.TraceSet.TraceSet, header.Header.Header}, Settings.{trace_view, TraceView}, RecordTypes.mode_of}
use Rattle.{plan_text.specs.{ReadPlan.plan_view, Plan.PlanView, Fits.fits}, gate_plan.specs.{Groups.sorting_of, Shifting.{sorting, Sorting}}}
use Rattle.{gate_plan.{specs.Histories.reading_by, proofs.Histories.history-none}, record_stream.specs.Standing.how_of, long_trace.specs.LongTrace.set_of}
use Rattle.{long_trace.specs.Texts.{first_line, open_text}, command_work.proofs.RestEnds.{refused-none, opens-misfit, opens-wrote, opens-cut}}
use Rattle.{ptu_definitions.specs.{Words.words_of, Streams.StreamSettings}, trace_work.specs.TraceOutcomes.{settled_before, words_traced, traces, traces_by}}
use Rattle.trace_work.proofs.trace.TraceJobJob.open.Goals as goal

-- the trace of no bytes

-- nothing is settled before the first word, and the first line stands alone
settled-none : (by : Sorting) (how : StreamSettings) → settled_before by how (words_of []) ≡ []
settled-none by how = history-none by how

text-none : (set : TraceView) (by : Sorting) (how : StreamSettings) → words_traced (Some set) by how (words_of []) ≡ first_line set
text-none set by how = ap (open_text set) (settled-none by how) ∙ append-nil (first_line set)

-- a reader of a plan that suits is told of as the plan is
traces-same : (set set' : TraceView) (plan : PlanView) (header : Header) (by : Sorting) (how : StreamSettings) → fits (mode_of header.record_type) plan ≡ Ok tt
    → set' ≡ set → by ≡ sorting plan → how ≡ reading_by plan header → traces set' by how ≡ traces_by (Some set) plan header
traces-same set set' plan header by how suits same_set same_sorting same_how = search (rules, arith)

pub returns-in_err-fits-clause-opens : goal.returns-in_err-fits-clause-opens
returns-in_err-fits-clause-opens g c = search (rules, arith, err_from_is_err_and, opens-misfit)

pub returns-in_err-start-clause-opens : goal.returns-in_err-start-clause-opens
returns-in_err-start-clause-opens g c =
    let p = err_from_is_err_and c.from_residual-in_err-start.result c.from_residual-in_err-start.ensures.1 in
    let job = c.args.self.now in
    let view = plan_view job.plan.now in
    let suits = sym (rw c.mode-mode.ensures at c.in_ok-fits.ensures.answer) in
    let short = rw c.new-trace.ensures.set at c.in_err-start.ensures.short in
    rw (p.1, p.2, suits) (opens-cut (Unit {0}) (traces (trace_view job.set) (sorting view) (reading_by view c.args.header.now)) _ _ _ c.in_err-start.field-0.0 _ (text-none (trace_view job.set) (sorting view) (reading_by view c.args.header.now)) c.in_err-start.ensures.refuses.fault short)

pub returns-clause-opens : goal.returns-clause-opens
returns-clause-opens g c =
    let job = c.args.self.now in
    let view = plan_view job.plan.now in
    let suits = sym (rw c.mode-mode.ensures at c.in_ok-fits.ensures.answer) in
    let wrote = rw c.new-trace.ensures.set at c.in_ok-start.ensures.text in
    rw suits (opens-wrote (Unit {0}) (traces (trace_view job.set) (sorting view) (reading_by view c.args.header.now)) ⊥ _ _ tt _ (text-none (trace_view job.set) (sorting view) (reading_by view c.args.header.now)) (refused-none _) wrote)

pub returns-clause-tells : goal.returns-clause-tells
returns-clause-tells g c =
    let job = c.args.self.now in
    let suits = sym (rw c.mode-mode.ensures at c.in_ok-fits.ensures.answer) in
    let same : set_of c.start.new.self ≡ job.set = c.start.ensures.starts.same_set ∙ c.new-trace.ensures.set in
    traces-same (trace_view job.set) (trace_view (set_of c.start.new.self)) (plan_view job.plan.now) c.args.header.now (sorting_of c.of-gates.result) (how_of c.new-stream.result) suits (ap (λ (set : TraceSet). trace_view set) same) c.of-gates.ensures.sorting c.new-stream.ensures.how

pub returns-clause-stands : goal.returns-clause-stands
returns-clause-stands g c =
    let none = c.new-trace.ensures.none in
    let starts = c.in_ok-start.ensures.starts in
    record {
      going = c.new-stream.ensures.unrefused;
      behind = record { going = starts.going; few = omega (arith, none.0, starts.same_counts.0); before = omega (arith, none.1, starts.same_counts.1) };
      streamed = c.new-stream.ensures.empty;
      traced = rw (settled-none _ _) (starts.stands _ c.new-trace.ensures.empty);
    }
