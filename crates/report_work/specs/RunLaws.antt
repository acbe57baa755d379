-- What holds of the report of bytes that grow.
use Rattle.std.proofs.Common.{◌≡◌, ◌∙◌, ℕ, List, ◌++◌, None, Ok, Err, refl, sym, ap, inl, inr, Result}
use Rattle.{tally_base.specs.{declared.{fault.Fault.Fault, header.Header.Header}, Faults.fault_in}, ptu_definitions.specs.{declared.records.Summary.Summary, Streams.{record_refusal, streamed}}}
use Rattle.{ptu_definitions.{specs.Words.words_of, proofs.Firsts.{record_refusal-inside, streamed-inside}}, plan_text.specs.Plan.PlanView, record_stream.proofs.Lasts.{streamed-shown, streamed-clear}}
use Rattle.{tally_engine.specs.{declared.engine.Engine.Engine, Engine.header_of}, gate_plan.specs.Histories.reading_by, command_work.specs.{Behaviours.{AtEnd, ForTables}, Endings.WantsBehind}}
use Rattle.{command_work.{specs.RecordsWork.{IsText, IsAllOrNothing, Suits}, proofs.RestEnds.{suited-law, declined-late, suits-at_end}}, report_work.specs.Reports.{reported, reporting, reports}}
use Rattle.report_work.specs.Reports.{reports_by, MayWant, CountsBy}

pub ends-fault : (plan : PlanView) (header : Header) (bytes : List ℕ) (r : Result Summary Fault) → (reported plan header bytes r).fault ≡ fault_in r
ends-fault plan header bytes (Ok summary) = refl
ends-fault plan header bytes (Err fault) = refl

pub reports-law : (plan : PlanView) (header : Header) → IsText (reports plan header)
reports-law plan header = record {
  refused = λ bytes more fault h. ap (reported plan header (bytes ++ more)) (streamed-shown (reading_by plan header) bytes fault h more);
  front = λ bytes more. (((reports plan header).ends (bytes ++ more)).text, refl);
  inside = λ bytes. record_refusal-inside (reading_by plan header) (words_of bytes);
  end_inside = λ bytes fault h. streamed-inside (reading_by plan header) bytes fault (sym (ends-fault plan header bytes (streamed (reading_by plan header) bytes)) ∙ h);
}

pub counts-clear : (plan : PlanView) (engine : Engine) (bytes : List ℕ) → CountsBy plan engine bytes → record_refusal (reading_by plan (header_of engine)) (words_of bytes) ≡ None
counts-clear plan engine bytes h = rw (← h.is.reads) (streamed-clear _ _ _ _ _ _ _ _ h.fed.0 h.going)

-- a report is written at a good end
late : (plan : PlanView) (header : Header) (bytes : List ℕ) (r : Result Summary Fault) → IsAllOrNothing (reported plan header bytes r)
late plan header bytes (Ok summary) = inr refl
late plan header bytes (Err fault) = inl refl

pub reporting-suits : (plan : PlanView) → Suits (reporting plan) AtEnd (WantsBehind ForTables plan) (reports_by plan) (MayWant plan)
reporting-suits plan = suits-at_end (reports_by plan) _ (suited-law plan (reports plan) (reports-law plan)) _ _
    (λ header bytes. declined-late _ (reports plan header) bytes (refl, late plan header bytes (streamed (reading_by plan header) bytes)))
    (λ bytes behind header answer wants few. record { tables = wants.0; header = header; behind = behind; answer = answer; suits = wants.1; few = few })
