-- What is shown of each command's work: good files end it well.
use Rattle.std.proofs.{Common.{◌≡◌, ◌∙◌, Result, ℕ, List, length, false, None, Some, Ok, refl, ap, arith, nat_lt}, lemmas.Bool.Decides.nat_tests}
use Rattle.tally_base.specs.{Faults.fault_in, declared.{header.{Header.Header, RecordType.RecordType}, fault.Fault.Fault}, RecordTypes.mode_of}
use Rattle.ptu_definitions.specs.{Headers.header_answer, Words.{words_of, record_limit, records_of, counted}, Kinds.counts_of, Streams.StreamSettings}
use Rattle.{ptu_definitions.specs.Streams.{summary, streamed}, plan_text.specs.{Plan.PlanView, Fits.fits}, gate_plan.specs.Histories.reading_by}
use Rattle.{gate_plan.specs.Shifting.sorting, command_work.specs.{Outcomes.Outcome, Behaviours.{Work, Behaviour, AreWhole, AreRead, Alone, OnFile, ByPlan}}}
use Rattle.{command_work.specs.RecordsWork.{RecordsWork, unless_declined, if_suited, headed_end}, file_work.specs.FileOutcomes.{listing, counting, listing_all}}
use Rattle.{trace_work.specs.TraceOutcomes.{trace_of, traced, traces_with, tracing}, report_work.specs.Reports.{reporting, reported, reports}}
use Rattle.{pick_work.specs.PickOutcomes.{picking, picks_of}, ptu_cli.specs.{Behaviours.behaviour, Commands.{Request, Count, Events, Run, Trace, Pick, Demo}}}
use Rattle.ptu_cli.specs.Commands.{Header as HeaderOf}

-- Good bytes of FILE end the work well.
abbrev pub WorkIsSound : Work → Type 0
WorkIsSound work = (bytes : List ℕ) → work.good bytes → (work.outcome bytes).fault ≡ None

-- what is shown of a command
abbrev pub IsSound : Behaviour → Type 0
IsSound (Alone end) = Unit {0}
IsSound (OnFile file writing work) = WorkIsSound work
IsSound (ByPlan plan file writing memory lacks work) = (view : PlanView) → WorkIsSound (work view)

counted-whole : (record_type : RecordType) (behind : List ℕ) → AreWhole behind → counted record_type behind ≡ Ok (counts_of (records_of record_type behind))
unfolding counted
counted-whole record_type behind h =
    let few : nat_lt record_limit (length (words_of behind)) ≡ false = grind (arith, nat_tests, h.few) in
    rw (few, h.whole) refl

streamed-read : (how : StreamSettings) (behind : List ℕ) → AreRead how behind → streamed how behind ≡ Ok (summary how (words_of behind))
unfolding streamed
streamed-read how behind h = rw (h.unrefused, h.whole) refl

planned-end : (view : PlanView) (tells : Header → RecordsWork) (bytes behind : List ℕ) (header : Header) → header_answer bytes ≡ Ok (header, behind)
    → fits (mode_of header.record_type) view ≡ Ok tt → headed_end (if_suited view tells) (header_answer bytes) ≡ (tells header).ends behind
planned-end view tells bytes behind header answer suits = ap (headed_end (if_suited view tells)) answer
    ∙ ap (λ (r : Result (Unit {0}) Fault). (unless_declined (fault_in r) (tells header)).ends behind) suits

counting-sound : WorkIsSound counting
counting-sound bytes h = rw (h.2, counted-whole h.0.record_type h.1 h.3) refl

listing-sound : WorkIsSound listing_all
listing-sound bytes h = rw h.2 (ap fault_in (streamed-read (listing h.0) h.1 h.3))

reporting-sound : (view : PlanView) → WorkIsSound (reporting view)
reporting-sound view bytes h = ap (λ (end : Outcome). end.fault) (planned-end view (reports view) bytes h.1 h.0 h.2 h.3.0
    ∙ ap (reported view h.0 h.1) (streamed-read (reading_by view h.0) h.1 h.3.1))

tracing-sound : (view : PlanView) → WorkIsSound (tracing view)
tracing-sound view bytes h = ap (λ (end : Outcome). end.fault) (planned-end view (λ header. traces_with (trace_of view) (sorting view) (reading_by view header)) bytes h.1 h.0 h.2 h.3.0
    ∙ ap (traced (trace_of view) (sorting view) (reading_by view h.0) h.1) (streamed-read (reading_by view h.0) h.1 h.3.1))

picking-sound : (group : ℕ) (view : PlanView) → WorkIsSound (picking group view)
picking-sound group view bytes h =
    let own : ((picks_of group view h.0).ends h.1).fault ≡ None = rw (streamed-read (reading_by view h.0) h.1 h.3.1, h.3.2) refl in
    ap (λ (end : Outcome). end.fault) (planned-end view (picks_of group view) bytes h.1 h.0 h.2 h.3.0) ∙ own

pub sound : (request : Request) → IsSound (behaviour (Some request))
sound (Count file) = counting-sound
sound (HeaderOf file) = λ bytes h. rw h.2 refl
sound (Events file) = listing-sound
sound (Run plan file) = reporting-sound
sound (Trace plan file) = tracing-sound
sound (Pick plan group file) = picking-sound group
sound (Demo seed count) = tt
