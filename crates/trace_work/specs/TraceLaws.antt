-- What holds of the trace of bytes that grow.
use Rattle.std.{proofs.Common.{◌≡◌, ◌∙◌, ℕ, List, None, Some, sym, subst}, specs.declared.option.Option.Option}
use Rattle.{tally_base.specs.{declared.settings.TraceSet.TraceSet, Settings.{TraceView, trace_view}}, ptu_definitions.specs.{Words.words_of, Streams.{StreamSettings, record_refusal}}}
use Rattle.{ptu_definitions.proofs.Firsts.{record_refusal-inside, streamed-inside}, plan_text.specs.Plan.PlanView, gate_plan.specs.{Shifting.{Sorting, sorting}, Histories.reading_by}}
use Rattle.{record_stream.{specs.{declared.stream.RecordStream.RecordStream, Standing.how_of}, proofs.Lasts.streamed-clear}, long_trace.specs.declared.trace.LongTrace.LongTrace}
use Rattle.command_work.{specs.{Behaviours.AsItReads, Works.WantsNone, RecordsWork.{IsText, headed_work, headed_so_far, Suits}}, proofs.RestEnds.{suited-law, suits-as_it_reads}}
use Rattle.trace_work.specs.{TraceOutcomes.{trace_of, traces, traces_by, trace_so_far, tracing}, TracePieces.HasTraced, TraceTexts.{text-front, refused-ends, ends-fault}}

pub traces-law : (set : TraceSet) (by : Sorting) (how : StreamSettings) → IsText (traces (trace_view set) by how)
traces-law set by how = record {
  refused = refused-ends by how (Some (trace_view set));
  front = text-front by how (trace_view set) set.some_width.0;
  inside = λ bytes. record_refusal-inside how (words_of bytes);
  end_inside = λ bytes fault h. streamed-inside how bytes fault (sym (ends-fault by how (Some (trace_view set)) bytes) ∙ h);
}

pub traced-clear : (by : Sorting) (stream : RecordStream) (trace : LongTrace) (bytes : List ℕ) → HasTraced by stream trace bytes → record_refusal (how_of stream) (words_of bytes) ≡ None
traced-clear by stream trace bytes h = streamed-clear _ _ _ _ _ _ _ _ h.streamed h.going

pub tracing-suits : (set : TraceSet) (plan : PlanView) → trace_of plan ≡ Some (trace_view set)
    → Suits (tracing plan) (AsItReads (trace_so_far plan)) WantsNone (traces_by (Some (trace_view set)) plan) (λ header. ⊥)
tracing-suits set plan has =
    let own = traces_by (Some (trace_view set)) plan in
    subst (λ (o : Option TraceView). Suits (headed_work (traces_by o plan) (tracing plan).good) (AsItReads (headed_so_far (traces_by o plan))) WantsNone own (λ header. ⊥)) (sym has)
    (suits-as_it_reads own _ (suited-law plan _ (λ header. traces-law set (sorting plan) (reading_by plan header))))
