-- What holds of the lines of events of bytes that grow.
use Rattle.std.proofs.Common.{◌≡◌, ◌∙◌, ℕ, List, [], ◌∷◌, ◌++◌, None, refl, sym, ap, append_assoc}
use Rattle.{tally_base.specs.Faults.fault_in, ptu_definitions.{specs.{Kept.Marked, Words.{words_of, rest_of}, Streams.{StreamSettings, record_refusal, given}}, proofs.Firsts.record_refusal-inside}}
use Rattle.{ptu_definitions.proofs.{Firsts.streamed-inside, WordsLemmas.words_of-append, StreamLemmas.{given-front, given-stays}}, record_stream.specs.declared.stream.RecordStream.RecordStream}
use Rattle.{record_stream.{specs.Standing.how_of, proofs.Lasts.{streamed-shown, streamed-clear}}, list_out.specs.Lines.{event_text, events_text, lines_of}, command_work.specs.Behaviours.AsItReads}
use Rattle.{command_work.{specs.{Works.WantsNone, RecordsWork.{IsText, Suits}}, proofs.RestEnds.{same-end, suits-as_it_reads}}, file_work.specs.FileOutcomes.{listing, listed, lists, lists_by}}
use Rattle.file_work.specs.{FileOutcomes.{events_so_far, listing_all}, EventLines.HasListed}

pub events_text-append : (l m : Marked) → events_text (l ++ m) ≡ events_text l ++ events_text m
events_text-append [] m = refl
events_text-append (x ∷ l) m = ap (λ t. event_text x.0 x.1 ++ t) (events_text-append l m) ∙ sym (append_assoc (event_text x.0 x.1) (events_text l) (events_text m))

lines-front : (how : StreamSettings) (bytes more : List ℕ) → (tail : List ℕ) × (lines_of how (words_of (bytes ++ more)) ≡ lines_of how (words_of bytes) ++ tail)
lines-front how bytes more =
    let r = given-front how (words_of bytes) (words_of (rest_of bytes ++ more)) in
    (events_text r.0, ap (lines_of how) (words_of-append bytes more) ∙ ap events_text r.1 ∙ events_text-append (given how (words_of bytes)) r.0)

pub lists-law : (how : StreamSettings) → IsText (lists how)
lists-law how = record {
  refused = λ bytes more fault h.
      same-end (listed how (bytes ++ more)) _ _ (ap (lines_of how) (words_of-append bytes more) ∙ ap events_text (given-stays how (words_of bytes) (words_of (rest_of bytes ++ more)) fault h)) (ap fault_in (streamed-shown how bytes fault h more));
  front = lines-front how;
  inside = λ bytes. record_refusal-inside how (words_of bytes);
  end_inside = streamed-inside how;
}

pub listed-clear : (stream : RecordStream) (bytes : List ℕ) → HasListed stream bytes → record_refusal (how_of stream) (words_of bytes) ≡ None
listed-clear stream bytes h = streamed-clear _ _ _ _ _ _ _ _ h.streamed h.going

pub listing-suits : Suits listing_all (AsItReads events_so_far) WantsNone lists_by (λ header. ⊥)
listing-suits = suits-as_it_reads lists_by _ (λ header. lists-law (listing header))
