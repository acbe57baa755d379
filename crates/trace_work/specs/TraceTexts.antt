-- The text of a trace of words, and of more of them.
use Rattle.std.proofs.Common.{◌≡◌, ◌∙◌, ◌<◌, ℕ, List, [], ◌++◌, None, Some, Ok, Err, map, take, drop, length, refl, sym, ap, subst, append_assoc, append-nil, take-append-drop, Result, ◌-◌}
use Rattle.std.specs.declared.option.Option.{Option}
use Rattle.{tally_base.specs.{declared.fault.Fault.Fault, Faults.fault_in, Settings.TraceView}, ptu_definitions.specs.{declared.records.Summary.Summary, Words.{words_of, rest_of}, Kept.Marked}}
use Rattle.ptu_definitions.specs.{Settled.{kept_by, not_marked}, Times.events, Streams.{StreamSettings, unrefused_after, record_refusal, given, last_in, streamed, IsFirst}}
use Rattle.ptu_definitions.proofs.{DeliveredLaws.{delivered-settled, not_marked-append}, Firsts.{given-all, given-before}, StreamLemmas.{given-front, given-stays}, WordsLemmas.words_of-append}
use Rattle.{record_stream.proofs.Lasts.streamed-shown, gate_plan.{specs.{Shifting.Sorting, Histories.{with_groups, history, settled_history}}, proofs.Histories.{history-ends, with_groups-more}}}
use Rattle.{long_trace.{specs.Texts.{open_text, whole_text}, proofs.Rising.{RisesFrom, rises-parts, open-front, whole-front}}, trace_work.specs.TraceOutcomes.{open_by, settled_before, words_traced}}
use Rattle.{trace_work.specs.{TraceOutcomes.{traced, records_traced}, TraceOrder.kept-rises}, photon_pick.proofs.Ends.clear-from_ok}

module _ (by : Sorting) (how : StreamSettings) where
  -- what is settled is what was given and isn't marked late
  pub settled-given : (words : List ℕ) → settled_before by how words ≡ with_groups by (not_marked (given how words))
  unfolding settled_history given
  settled-given words = ap (with_groups by) (sym (delivered-settled how.policy.settle how.mode (events (map how.meaning (unrefused_after how [] words)))))

  pub settled-adds : (words now : List ℕ) (more : Marked) → given how now ≡ given how words ++ more → settled_before by how now ≡ settled_before by how words ++ with_groups by (not_marked more)
  settled-adds words now more adds =
      settled-given now
      ∙ ap (λ l. with_groups by (not_marked l)) adds
      ∙ ap (with_groups by) (not_marked-append (given how words) more)
      ∙ with_groups-more by (not_marked (given how words)) (not_marked more)
      ∙ ap (λ l. l ++ with_groups by (not_marked more)) (sym (settled-given words))

  pub settled-stays : (words more : List ℕ) (fault : Fault) → record_refusal how words ≡ Some fault → settled_before by how (words ++ more) ≡ settled_before by how words
  settled-stays words more fault refused = settled-given (words ++ more) ∙ ap (λ l. with_groups by (not_marked l)) (given-stays how words more fault refused) ∙ sym (settled-given words)

  pub settled-whole : (words : List ℕ) → record_refusal how words ≡ None → settled_before by how words ≡ settled_history by how words
  unfolding settled_history
  settled-whole words none =
      settled-given words
      ∙ ap (λ l. with_groups by (not_marked l)) (given-all how words none)
      ∙ ap (with_groups by) (delivered-settled how.policy.settle how.mode (events (map how.meaning words)))

  pub settled-first : (words : List ℕ) (fault : Fault) (least : IsFirst how fault [] words) → settled_before by how words ≡ settled_history by how least.front
  unfolding settled_history
  settled-first words fault least =
      settled-given words
      ∙ ap (λ l. with_groups by (not_marked l)) (given-before how words fault least)
      ∙ ap (with_groups by) (delivered-settled how.policy.settle how.mode (events (map how.meaning least.front)))

  -- the kept list is what is settled, and the rest that is given at the end
  pub history-rest : (words : List ℕ) → record_refusal how words ≡ None → history by how words ≡ settled_before by how words ++ with_groups by (not_marked (last_in how words))
  history-rest words none = history-ends by how words ∙ ap (λ l. l ++ with_groups by (not_marked (last_in how words))) (sym (settled-whole words none))

  pub history-rises : (words : List ℕ) → RisesFrom 0 (history by how words)
  unfolding history
  history-rises words = kept-rises by how.policy.settle how.mode (events (map how.meaning words))

  pub settled-rises : (words : List ℕ) → RisesFrom 0 (settled_before by how words)
  unfolding settled_history
  settled-rises words =
      let k = how.policy.settle in
      let kept = kept_by k how.mode (events (map how.meaning (unrefused_after how [] words))) in
      let n = length kept - k in
      let parts : with_groups by kept ≡ with_groups by (take n kept) ++ with_groups by (drop n kept) = ap (with_groups by) (sym (take-append-drop n kept)) ∙ with_groups-more by (take n kept) (drop n kept) in
      (rises-parts 0 (with_groups by (take n kept)) (with_groups by (drop n kept)) (subst (RisesFrom 0) parts (kept-rises by k how.mode (events (map how.meaning (unrefused_after how [] words)))))).0

  module _ (set : TraceView) (some : 0 < set.width) where
    -- the text of more words
    words-front : (words more : List ℕ) → (tail : List ℕ) × (words_traced (Some set) by how (words ++ more) ≡ words_traced (Some set) by how words ++ tail)
    words-front words more =
        let r = given-front how words more in
        let adds = settled-adds words (words ++ more) r.0 r.1 in
        let front = open-front set (settled_before by how words) (with_groups by (not_marked r.0)) some (subst (RisesFrom 0) adds (settled-rises (words ++ more))) in
        (front.0, ap (open_text set) adds ∙ front.1)

    -- the text of all words
    whole-behind : (words : List ℕ) → record_refusal how words ≡ None → (tail : List ℕ) × (whole_text set (history by how words) ≡ words_traced (Some set) by how words ++ tail)
    whole-behind words none =
        let rest = history-rest words none in
        let front = open-front set (settled_before by how words) (with_groups by (not_marked (last_in how words))) some (subst (RisesFrom 0) rest (history-rises words)) in
        let whole = whole-front set (history by how words) in (
          front.0 ++ whole.0,
          whole.1 ∙ ap (λ l. l ++ whole.0) (ap (open_text set) rest ∙ front.1) ∙ append_assoc (words_traced (Some set) by how words) front.0 whole.0,
        )

    end-front : (bytes : List ℕ) → (tail : List ℕ) × ((records_traced (Some set) by how bytes).text ≡ words_traced (Some set) by how (words_of bytes) ++ tail)
    end-front bytes = by_answer (streamed how bytes) refl
      where
        by_answer : (r : Result Summary Fault) → streamed how bytes ≡ r → (tail : List ℕ) × ((traced (Some set) by how bytes r).text ≡ words_traced (Some set) by how (words_of bytes) ++ tail)
        by_answer (Ok summary) is = whole-behind (words_of bytes) (clear-from_ok how bytes summary is)
        by_answer (Err fault) is = ([], sym (append-nil (words_traced (Some set) by how (words_of bytes))))

    -- The text of some bytes is in front of what they end with, with more of them.
    pub text-front : (bytes more : List ℕ) → (tail : List ℕ) × ((records_traced (Some set) by how (bytes ++ more)).text ≡ words_traced (Some set) by how (words_of bytes) ++ tail)
    text-front bytes more =
        let words = words-front (words_of bytes) (words_of (rest_of bytes ++ more)) in
        let end = end-front (bytes ++ more) in (
          words.0 ++ end.0,
          end.1 ∙ ap (λ l. l ++ end.0) (ap (words_traced (Some set) by how) (words_of-append bytes more) ∙ words.1) ∙ append_assoc (words_traced (Some set) by how (words_of bytes)) words.0 end.0,
        )

  -- a refusal over some bytes is the end of all that begin with them
  pub refused-ends : (set : Option TraceView) (bytes more : List ℕ) (fault : Fault) → record_refusal how (words_of bytes) ≡ Some fault
      → records_traced set by how (bytes ++ more) ≡ record { text = words_traced set by how (words_of bytes); fault = Some fault }
  refused-ends set bytes more fault refused =
      ap (traced set by how (bytes ++ more)) (streamed-shown how bytes fault refused more)
      ∙ ap (λ l. record { text = open_by set l; fault = Some fault }) (ap (settled_before by how) (words_of-append bytes more) ∙ settled-stays (words_of bytes) (words_of (rest_of bytes ++ more)) fault refused)

  -- the fault of the end is that of the records
  pub ends-fault : (set : Option TraceView) (bytes : List ℕ) → (records_traced set by how bytes).fault ≡ fault_in (streamed how bytes)
  ends-fault set bytes = by_answer (streamed how bytes)
    where
      by_answer : (r : Result Summary Fault) → (traced set by how bytes r).fault ≡ fault_in r
      by_answer (Ok summary) = refl
      by_answer (Err fault) = refl
