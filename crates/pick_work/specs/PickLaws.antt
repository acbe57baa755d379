-- What holds of the photons that are picked of bytes that grow.
use Rattle.std.proofs.Common.{◌≡◌, ◌∙◌, ℕ, List, ◌++◌, Bool, None, sym, ap, append_assoc}
use Rattle.{tally_base.specs.declared.event.Event.Event, ptu_definitions.specs.{Words.words_of, Streams.StreamSettings}, plan_text.specs.Plan.PlanView, gate_plan.specs.Histories.reading_by}
use Rattle.{record_stream.{specs.{declared.stream.RecordStream.RecordStream, Standing.how_of}, proofs.Lasts.streamed-clear}, minimal_file.specs.ShortFiles.short_header}
use Rattle.{record_write.specs.declared.picker.Picker.Picker, photon_pick.{specs.Texts.{text_in, refusal_in}, proofs.Stays.{text-front, refused-stays, refused-inside, end-inside, unrefused}}}
use Rattle.command_work.{specs.{Behaviours.AsItReads, Works.WantsNone, RecordsWork.{IsText, Suits}}, proofs.RestEnds.{same-end, suited-law, suits-as_it_reads}}
use Rattle.pick_work.specs.PickOutcomes.{chosen_by, pick_so_far, picking, picks, picks_by, HasWritten}

pub picks-law : (chooses : Event → Bool) (how : StreamSettings) → IsText (picks chooses how)
picks-law chooses how = record {
  refused = λ bytes more fault h. let stays = refused-stays chooses how bytes more fault h in same-end ((picks chooses how).ends (bytes ++ more)) _ _ (ap (λ l. short_header how.mode ++ l) stays.0) stays.1;
  front = λ bytes more.
      let tail = text-front chooses how bytes more in
      (tail.0, ap (λ l. short_header how.mode ++ l) tail.1 ∙ sym (append_assoc (short_header how.mode) (text_in chooses how (words_of bytes)) tail.0));
  inside = λ bytes. refused-inside chooses how (words_of bytes);
  end_inside = end-inside chooses how;
}

pub written-clear : (chooses : Event → Bool) (stream : RecordStream) (picker : Picker) (bytes : List ℕ) → HasWritten chooses stream picker bytes → refusal_in chooses (how_of stream) (words_of bytes) ≡ None
written-clear chooses stream picker bytes h = unrefused chooses (how_of stream) (words_of bytes) picker h.picked (streamed-clear _ _ _ _ _ _ _ _ h.streamed h.going)

pub picking-suits : (group : ℕ) (plan : PlanView) → Suits (picking group plan) (AsItReads (pick_so_far group plan)) WantsNone (picks_by group plan) (λ header. ⊥)
picking-suits group plan = suits-as_it_reads (picks_by group plan) _ (suited-law plan _ (λ header. picks-law (chosen_by plan group) (reading_by plan header)))
