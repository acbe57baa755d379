-- What `demo` leaves.
use Rattle.std.proofs.Common.{◌≡◌, ◌≤◌, ◌++◌, ℕ, List, None, Some, Ok, Err, true, refl, sym, ap, subst, ◌∙◌, inl, inr, arith, ◌≢◌, ◌⊎◌, Result, IsErrAnd, IfErr}
use Rattle.{std.proofs.{Common.{[], OnOk, OnErr}, lemmas.Result.IfErr-weaker}, tally_base.specs.declared.fault.Fault.{Fault, TheVariants.OutOfMemory}}
use Rattle.tally_base.specs.declared.{fault.Fault.TheVariants.WriteFault, slot.Slot.TheVariants.Data, header.Mode.TheVariants.T2}
use Rattle.tally_base.specs.{declared.header.{RecordType.TheVariants.HydraHarp2T2, Header.Header}, Faults.{is_outside, fault_in}, RecordTypes.mode_of}
use Rattle.{tally_base.proofs.Reasons.HasReason-follows, bench_io.specs.{Given.{Given, no_bytes, Consumes, MayFollow}, Inputs.InputState, Sinks.SinkState}}
use Rattle.bench_io.{specs.Sinks.{Wrote, WroteShort}, proofs.{Bytes.{Wrote-nil, Wrote-same}, Texts.WroteText-none}}
use Rattle.{ptu_definitions.specs.{Headers.header_answer, Words.words_of, Streams.{record_refusal, streamed, summary}}, plan_text.specs.declared.plan.Plan.Plan}
use Rattle.plan_text.{specs.{Plan.PlanView, ReadPlan.{plan_view, plan_answer}, Fits.fits}, proofs.Called.plan_on_literals}
use Rattle.{gate_plan.specs.Histories.{policy_of, reading_by, history}, ptu_made.specs.{Generator.{made_words, photon_limit}, Records.{made_file, made_header}}}
use Rattle.ptu_made.{specs.{declared.made.Made.Made, Made.{made_state, made_agrees}}, proofs.MadeEvents.{all-made, words-bytes, few-words, unrefused}}
use Rattle.{minimal_file.{specs.ShortFiles.{short_header, minimal_file, bytes_in}, proofs.ShortHeaders.short-answer}, report_work.specs.Reports.reporting}
use Rattle.report_work.specs.{Reports.{reported, reports, reports_by, MayWant, CountsBy}, Demo.{demo_text, demo_plan, demo_reading, demo_report}}
use Rattle.command_work.specs.{Outcomes.{Outcome, written}, Behaviours.{Alone, AtEnd, ForTables}, Endings.{Cuts, EndsWith, HasCauses, WantsBehind, outcome}}
use Rattle.command_work.specs.{Works.{AnswersWork, WorkReason}, RecordsWork.{WritesPiece, WritesEnd, Opens, unless_declined, headed_end}}
use Rattle.{command_work.proofs.{Told.all-taken, RestEnds.opens-misfit}, tally_engine.specs.declared.{engine.Engine.Engine, results.Results.Results}}
use Rattle.tally_engine.specs.{Engine.{header_of, engine_sorting, reading_of, refused_by, HasFed, IsFor, SameEngine, IsCounted, OpensAs}, Parts.settings_in}
use Rattle.table_out.{specs.Report.{Table, report, with_events, EachHolds}, proofs.Putting.each_holds_all}

-- ## The plan

pub demo-plan : plan_answer demo_text ≡ Ok demo_plan
unfolding plan_on_literals
demo-plan = refl

-- only memory may run out to read it
pub plan-wanted : (fault : Fault) → (◌≢◌ {A = Result Plan Fault} (Err fault) (Err OutOfMemory) → Err fault ≡ plan_answer demo_text) → fault ≡ OutOfMemory
plan-wanted OutOfMemory h = refl
plan-wanted _ h = let bad = h (λ e. cc) ∙ demo-plan in cc

pub demo-view : (plan : Plan) → (◌≢◌ {A = Result Plan Fault} (Ok plan) (Err OutOfMemory) → Ok (plan_view plan) ≡ plan_answer demo_text)
    → plan_view plan ≡ demo_plan
demo-view plan h = let read = h (λ e. cc) ∙ demo-plan in cc

-- ## The file

suits : fits (mode_of HydraHarp2T2) demo_plan ≡ Ok tt
unfolding fits
suits = refl

made-streamed : (seed count : ℕ) → count ≤ photon_limit
    → streamed demo_reading (bytes_in (made_words seed count)) ≡ Ok (summary demo_reading (made_words seed count))
unfolding streamed
made-streamed seed count few =
    let made = all-made seed count in
    let whole = words-bytes (made_words seed count) made in
    let many = (few-words seed count).1 in
    let unrefused_words : record_refusal demo_reading (made_words seed count) ≡ None =
    unrefused (policy_of demo_plan) (made_words seed count) refl (omega arith) (omega arith) made in
    rw (whole.0, whole.1, unrefused_words) refl

-- the report is that of a run over these files
pub made-report : (seed count : ℕ) → count ≤ photon_limit → (reporting demo_plan).outcome (made_file seed count) ≡ written (demo_report seed count)
unfolding made_file minimal_file demo_report
made-report seed count few =
    let answer : header_answer (short_header T2 ++ bytes_in (made_words seed count)) ≡ Ok (made_header, bytes_in (made_words seed count)) =
    short-answer T2 (bytes_in (made_words seed count)) in
    let whole : words_of (bytes_in (made_words seed count)) ≡ made_words seed count = (words-bytes (made_words seed count) (all-made seed count)).0 in
    let end : reported demo_plan made_header (bytes_in (made_words seed count)) (Ok (summary demo_reading (made_words seed count))) ≡ written (demo_report seed count) = rw whole refl in
    ap (headed_end (reports_by demo_plan)) answer
    ∙ ap (λ (r : Result (Unit {0}) Fault). (unless_declined (fault_in r) (reports demo_plan made_header)).ends (bytes_in (made_words seed count))) suits
    ∙ ap (reported demo_plan made_header (bytes_in (made_words seed count))) (made-streamed seed count few) ∙ end

module _ (seed count : ℕ) (plan : PlanView) (few : count ≤ photon_limit) (same_plan : plan ≡ demo_plan) where
  -- what is said of the made file is its report
  demo-told : (after : Made) (start : Given) (taken : List ℕ) → start ≡ no_bytes
      → (made_state after).told Data ≡ Some (made_file seed count) → Consumes start ((made_state after).given Data) taken
      → (more : List ℕ) × MayFollow ((made_state after).given Data) more × ((reporting plan).outcome (taken ++ more) ≡ written (demo_report seed count))
  demo-told after start taken none told took =
      let file = made_file seed count in
      let is = made_agrees after Data file told in
      let whole : taken ++ is.more ≡ file = ap (λ l. l ++ is.more) (sym (all-taken start ((made_state after).given Data) taken none took)) ∙ sym is.parts in
      (is.more, is.may_follow, ap (reporting plan).outcome whole ∙ ap (λ (view : PlanView). (reporting view).outcome file) same_plan ∙ made-report seed count few)

  -- the report was written, or a fault from outside came
  pub ends-demo : (after : Made) (start : Given) (old new : SinkState) (r : Result (Unit {0}) Fault) → start ≡ no_bytes
      → (made_state after).told Data ≡ Some (made_file seed count) → AnswersWork (reporting plan) start ((made_state after).given Data) old new r
      → IsErrAnd r (λ fault. is_outside fault ≡ true) ⊎ EndsWith (written (demo_report seed count)) (fault_in r) old new
  ends-demo after start old new r none told (inl outside) = inl outside
  ends-demo after start old new r none told (inr h) =
      let is = demo-told after start h.taken none told h.consumes in
      let end = sym (h.says.means is.0 is.1) ∙ is.2 in
      inr (record { same = ap (λ (end : Outcome). end.fault) end; text = Wrote-same old new _ _ (ap (λ (end : Outcome). end.text) end) h.written })

  -- no read of the made file fails
  pub demo-causes : (before after : Made) (state : InputState) (old new : SinkState) (r : Result (Unit {0}) Fault) → (made_state before).given Data ≡ no_bytes → (made_state after).told Data ≡ Some (made_file seed count)
      → IfErr r (WorkReason AtEnd (WantsBehind ForTables plan) (reporting plan)
      (record { before = made_state before; after = made_state after; old = old; new = new }))
      → IfErr r (HasCauses (Alone (written (demo_report seed count)))
      (record { before = state; after = state; old = old; new = new }))
  unfolding HasCauses outcome made_state
  demo-causes before after state old new r none told reason =
      IfErr-weaker r _ _
      (λ fault h.
      HasReason-follows _ _ _ _ _ _ _ _ fault
      (λ slot no. absurd no)
      (λ slot h. absurd (omega (arith, h.1)))
      (λ h. (
        h.0,
        λ plan_file data_file may.
            let is = demo-told after _ h.1.taken none told h.1.consumes in
            subst (λ (end : Outcome). Cuts {A = List ℕ → List ℕ} AtEnd end old new) is.2 (h.1.cut is.0 is.1),
      ))
      (λ h. (refl, h.keeps))
      h)
      reason

-- What an engine of a plan counted is the report.

-- an engine that was opened with the same is of the same plan
pub still-for : (old new : Engine) (plan : PlanView) → SameEngine old new → IsFor old plan (header_of old) → IsFor new plan (header_of new)
still-for old new plan same is = record {
  header_is = refl;
  sorting_is = same.same_sorting ∙ is.sorting_is;
  parts_are = same.same_parts ∙ is.parts_are;
  reads = same.same_reading ∙ is.reads ∙ ap (reading_by plan) (sym same.same_header);
}

pub for-own : (engine : Engine) (plan : PlanView) (header : Header) → IsFor engine plan header → IsFor engine plan (header_of engine)
for-own engine plan header is =
    record { header_is = refl; sorting_is = is.sorting_is; parts_are = is.parts_are; reads = is.reads ∙ ap (reading_by plan) (sym is.header_is) }

-- a reader of a plan that suits is told of as the plan is
pub reports-same : (plan : PlanView) (own header : Header) → fits (mode_of header.record_type) plan ≡ Ok tt
    → own ≡ header → reports plan own ≡ reports_by plan header
reports-same plan own header suits same =
    ap (reports plan) same ∙ sym (ap (λ (r : Result (Unit {0}) Fault). unless_declined (fault_in r) (reports plan header)) suits)

-- ## A piece

pub writes-fed : (plan : PlanView) (engine : Engine) (bytes piece : List ℕ) (a : SinkState) (r : Result (Unit {0}) Fault) → IsFor engine plan (header_of engine) → fault_in r ≡ record_refusal (reading_of engine) (words_of (bytes ++ piece)) → WritesPiece (reports plan (header_of engine)) bytes piece a a r
writes-fed plan engine bytes piece a (Ok done) is same = (rw is.reads at (sym same), WroteText-none [] a)
writes-fed plan engine bytes piece a (Err fault) is same = inl (rw is.reads at (sym same), WroteText-none [] a)

pub takes-fed : (plan : PlanView) (old new : Engine) (piece : List ℕ) (r : Result (Unit {0}) Fault) → SameEngine old new → refused_by new ≡ fault_in r → ((bytes : List ℕ) → HasFed old bytes → HasFed new (bytes ++ piece)) → OnOk r ((bytes : List ℕ) → CountsBy plan old bytes → CountsBy plan new (bytes ++ piece))
takes-fed plan old new piece (Ok done) same refused taken =
    λ bytes h. record { is = still-for old new plan same h.is; going = refused; fed = taken bytes h.fed }
takes-fed plan old new piece (Err fault) same refused taken = tt

-- ## An engine that wasn't opened

pub opens-unopened : (plan : PlanView) (header : Header) (a : SinkState) (fault : Fault)
    → OpensAs {A = Engine} (mode_of header.record_type) plan (Err fault)
    → Opens {X = Unit {0}} (reports_by plan header) (MayWant plan header) a a (Err fault)
opens-unopened plan header a fault (inl misfit) =
    opens-misfit (Unit {0}) (reports plan header) _ a a (fits (mode_of header.record_type) plan) fault misfit
opens-unopened plan header a fault (inr h) = inr (h.1, (h.2, h.0), Wrote-nil a)

-- ## The end

module _ (plan : PlanView) (engine : Engine) (bytes : List ℕ) (is : IsFor engine plan (header_of engine)) where
  -- records that are refused, or a cut one
  pub ends-refused : (fault : Fault) (a : SinkState) → streamed (reading_of engine) bytes ≡ Err fault
      → WritesEnd (reports plan (header_of engine)) bytes a a (Err fault)
  ends-refused fault a refused =
      let ends = ap (reported plan (header_of engine) bytes) (rw is.reads at refused) in
      inl (ap (λ (o : Outcome). o.fault) ends, record { more = []; adds = ap (λ (o : Outcome). o.text) ends; wrote = Wrote-nil a })

  module _ (results : Results) (counted : IsCounted engine bytes results) where
    abbrev tables : List Table
    tables = with_events (settings_in results.parts.items) (history (engine_sorting engine) (reading_of engine) (words_of bytes))

    pub each-holds : EachHolds results.parts.items tables
    each-holds = each_holds_all results.parts.items _ counted.counts

    ends-counted : (reports plan (header_of engine)).ends bytes ≡ written (report results.header results.summary tables)
    ends-counted =
        ap (reported plan (header_of engine) bytes) (rw is.reads at counted.summary_is)
        ∙ rw (counted.header_is, counted.parts_are, is.parts_are, is.sorting_is, is.reads) refl

    -- the report was written, or cut short
    pub ends-reported : (r : Result (Unit {0}) Fault) (old new : SinkState) → OnOk r ((tables : List Table) → EachHolds results.parts.items tables → Wrote old new (report results.header results.summary tables))
        → OnErr r ((tables : List Table) → EachHolds results.parts.items tables → WroteShort old new (report results.header results.summary tables))
        → IfErr r (λ fault. fault ≡ WriteFault) → WritesEnd (reports plan (header_of engine)) bytes old new r
    ends-reported (Ok done) old new text short write = (ap (λ (o : Outcome). o.fault) ends-counted, record { more = report results.header results.summary tables; adds = ap (λ (o : Outcome). o.text) ends-counted; wrote = text tables each-holds })
    ends-reported (Err fault) old new text short write = inr (write, record { more = report results.header results.summary tables; adds = ap (λ (o : Outcome). o.text) ends-counted; cut = short tables each-holds })
