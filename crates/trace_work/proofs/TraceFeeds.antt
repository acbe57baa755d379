-- What a piece, and the end of a stream, write of a trace.
use Rattle.std.proofs.Common.{◌≡◌, ◌∙◌, ◌<◌, ℕ, List, [], ◌++◌, None, Some, Ok, Err, refl, sym, ap, subst, inl, inr, append_assoc, append-nil, Result, OnOk}
use Rattle.{std.proofs.Common.OnErr, tally_base.specs.{declared.{fault.Fault.Fault, slot.Failed.Failed}, Faults.fault_in, Settings.{TraceView, trace_view}}}
use Rattle.{tally_base.specs.Tally.History, bench_io.specs.{Sinks.{SinkState, Wrote, WroteShort, PassesOn}, Texts.{WritesText, PutText}}}
use Rattle.bench_io.proofs.{Bytes.{WroteShort-more, PassesOn-held}, Texts.{PutsText, writes-flushed, writes-unflushed}}
use Rattle.ptu_definitions.specs.{declared.records.Summary.Summary, Kept.Marked, Settled.not_marked, Words.{words_of, rest_of}, Streams.StreamSettings}
use Rattle.ptu_definitions.{specs.Streams.{record_refusal, last_in, streamed}, proofs.DeliveredLaws.not_marked-append}
use Rattle.{record_stream.specs.{declared.taker.EventTaker.Ghosts, Feeding.{GaveOn, Fed}, Ending.Ended}, gate_plan.specs.Shifting.Sorting}
use Rattle.{gate_plan.{specs.Histories.{with_groups, history}, proofs.Histories.with_groups-more}, long_trace.specs.declared.trace.LongTrace.LongTrace}
use Rattle.long_trace.{specs.{LongTrace.{Holds, GivenMore, set_of}, Texts.open_text}, proofs.Rising.{RisesFrom, open-front}}
use Rattle.trace_work.specs.{TraceOutcomes.{TracedShort, settled_before, words_traced}, TracePieces.{text_by, both_ended}, TraceTexts.settled-adds}
use Rattle.trace_work.specs.TraceTexts.{settled-rises, history-rest, history-rises}

with-parts : (by : Sorting) (l m : Marked) → with_groups by (not_marked (l ++ m)) ≡ with_groups by (not_marked l) ++ with_groups by (not_marked m)
with-parts by l m = ap (with_groups by) (not_marked-append l m) ∙ with_groups-more by (not_marked l) (not_marked m)

clear-whole : (how : StreamSettings) (bytes : List ℕ) → record_refusal how (words_of bytes) ≡ None → rest_of bytes ≡ [] → fault_in (streamed how bytes) ≡ None
unfolding streamed
clear-whole how bytes none whole = rw (none, whole) refl

-- bytes without a refusal have the text of the whole kept list
text-clear : (trace : LongTrace) (by : Sorting) (how : StreamSettings) (bytes : List ℕ) (r : Result Summary Fault) → fault_in r ≡ None
    → text_by trace by how bytes r ≡ open_text (trace_view (set_of trace)) (history by how (words_of bytes))
text-clear trace by how bytes (Ok summary) none = refl
text-clear trace by how bytes (Err fault) none = cc

-- What a taker of a trace tells of the events that it was given, from a block that held nothing.
pub record Gets (by : Sorting) (old new : LongTrace) (a b : SinkState) (held : List ℕ) (l : Marked) : Type 0 where
  pub lines : List ℕ
  pub given : GivenMore old new (with_groups by (not_marked l)) lines
  pub text : PassesOn a b lines held

-- some of the events of a longer list
some-lines : (set : TraceView) (by : Sorting) (h all : History) (l m : Marked) (lines : List ℕ)
    → 0 < set.width → RisesFrom 0 all → all ≡ h ++ with_groups by (not_marked (l ++ m))
    → open_text set (h ++ with_groups by (not_marked l)) ≡ open_text set h ++ lines → (tail : List ℕ) × (open_text set all ≡ open_text set h ++ (lines ++ tail))
some-lines set by h all l m lines some up is closed =
    let parts : all ≡ (h ++ with_groups by (not_marked l)) ++ with_groups by (not_marked m) =
    is ∙ ap (λ t. h ++ t) (with-parts by l m) ∙ sym (append_assoc h (with_groups by (not_marked l)) (with_groups by (not_marked m))) in
    let front = open-front set (h ++ with_groups by (not_marked l)) (with_groups by (not_marked m)) some (subst (RisesFrom 0) parts up) in
    (front.0, ap (open_text set) parts ∙ front.1 ∙ ap (λ t. t ++ front.0) closed ∙ append_assoc (open_text set h) lines front.0)

module _ {T : Type 0} (g : Ghosts T) (trace : T → LongTrace) (told : T → SinkState) (held : T
    → List ℕ) (by : Sorting) (how : StreamSettings) (a b : T)
    (none : g.got a a []) (gets : (l : Marked) → g.got a b l → Gets by (trace a) (trace b) (told a) (told b) (held b) l) (breaks : (l : Marked)
    → g.broke a b l → TracedShort (trace a) by (told a) (told b) [] (held b) l) where
  abbrev set : TraceView
  set = trace_view (set_of (trace a))

  abbrev text : List ℕ → List ℕ
  text = words_traced (Some set) by how

  module _ (some : 0 < set.width) (words now : List ℕ) (holds : Holds (trace a) (settled_before by how words)) where
    gave : (h : GaveOn g how a b words now) → PutText (text words) (text now) (told a) (told b) [] (held b) × Holds (trace b) (settled_before by how now)
    gave h =
        let it = gets h.more (h.follows a [] none) in
        let adds = settled-adds by how words now h.more h.adds in
        (record { more = it.lines; adds = ap (open_text set) adds ∙ it.given.closed (settled_before by how words) holds; put = it.text }, rw adds (it.given.follows (settled_before by how words) holds))

    -- What a piece put, by what its events were.
    pub feeds-on : {X : Type 0} (r : Result X Fault) → Fed g how a b words now r
        → PutsText (text words) (text now) (record_refusal how now) (told a) (told b) (held b) r × OnOk r (Holds (trace b) (settled_before by how now))
    feeds-on (Ok x) fed = let it = gave fed.1 in ((fed.0, it.0), it.1)
    feeds-on (Err fault) (inl fed) = (inl (fed.0, (gave fed.1).0), tt)
    feeds-on (Err fault) (inr fed) =
        let it = breaks fed.1.front (fed.1.broken a [] none) in
        let more = some-lines set by (settled_before by how words) (settled_before by how now) fed.1.front fed.1.back it.lines some (settled-rises by how now)
        (settled-adds by how words now (fed.1.front ++ fed.1.back) fed.1.adds) (it.closed (settled_before by how words) holds) in
        (inr (fed.0, record { more = it.lines ++ more.0; adds = more.1; cut = WroteShort-more (told a) (told b) it.lines more.0 it.text }, it.empty), tt)

  -- ## The end

  module _ (some : 0 < set.width) (bytes : List ℕ) (holds : Holds (trace a) (settled_before by how (words_of bytes))) where
    abbrev all : History
    all = history by how (words_of bytes)

    -- What the end put, by what the events were that were kept back.
    pub ends-on : (r : Result Summary Fault) → record_refusal how (words_of bytes) ≡ None → held a ≡ [] → Ended g how a b bytes r
        → PutsText (text (words_of bytes)) (text_by (trace a) by how bytes (streamed how bytes)) (fault_in (streamed how bytes)) (told a) (told b) (held b) r × OnOk r (Holds (trace b) all)
    ends-on (Ok summary) clear empty rest =
        let it = gets (last_in how (words_of bytes)) (rest.follows a [] none) in
        let adds = history-rest by how (words_of bytes) clear in (
          (
            ap fault_in rest.streams,
            record {
              more = it.lines;
              adds = ap (text_by (trace a) by how bytes) rest.streams ∙ ap (open_text set) adds ∙ it.given.closed (settled_before by how (words_of bytes)) holds;
              put = it.text;
            },
          ),
          rw adds (it.given.follows (settled_before by how (words_of bytes)) holds),
        )
    ends-on (Err fault) clear empty (inl h) = (
      inl (
        ap fault_in h.0,
        record {
          more = [];
          adds = ap (text_by (trace a) by how bytes) h.0 ∙ sym (append-nil (text (words_of bytes)));
          put = subst (λ (t : T). PassesOn (told a) (told t) [] (held t)) (sym h.1) (rw empty (PassesOn-held (told a) []));
        },
      ),
      tt,
    )
    ends-on (Err fault) clear empty (inr h) =
        let it = breaks h.1.front (h.1.broken a [] none) in
        let is : all ≡ settled_before by how (words_of bytes) ++ with_groups by (not_marked (h.1.front ++ h.1.back)) = history-rest by how (words_of bytes) clear ∙ ap (λ l. settled_before by how (words_of bytes) ++ with_groups by (not_marked l)) h.1.adds in
        let more = some-lines set by (settled_before by how (words_of bytes)) all h.1.front h.1.back it.lines some
        (history-rises by how (words_of bytes)) is (it.closed (settled_before by how (words_of bytes)) holds) in (
          inr (
            h.0,
            record {
              more = it.lines ++ more.0;
              adds = text-clear (trace a) by how bytes (streamed how bytes) (clear-whole how bytes clear h.2) ∙ more.1;
              cut = WroteShort-more (told a) (told b) it.lines more.0 it.text;
            },
            it.empty,
          ),
          tt,
        )

    -- and what was written where the block was flushed, or that failed
    pub ends-both : (c : SinkState) (finished : Result Summary Fault) (flushed : Result (Unit {0}) Failed) → record_refusal how (words_of bytes) ≡ None → held a ≡ []
        → OnOk flushed (Wrote (told b) c (held b)) → OnErr flushed (WroteShort (told b) c (held b)) → Ended g how a b bytes finished
        → WritesText (text (words_of bytes)) (text_by (trace a) by how bytes (streamed how bytes)) (fault_in (streamed how bytes)) (told a) c (both_ended finished flushed) × OnOk (both_ended finished flushed) (Holds (trace b) all)
    ends-both c (Ok summary) (Ok done) clear empty whole short ended = let it = ends-on (Ok summary) clear empty ended in (writes-flushed _ _ _ _ _ _ _ (Ok summary) whole it.0, it.1)
    ends-both c (Err fault) (Ok done) clear empty whole short ended = (writes-flushed _ _ _ _ _ _ _ {X = Summary} (Err fault) whole (ends-on (Err fault) clear empty ended).0, tt)
    ends-both c finished (Err failed) clear empty whole short ended = (writes-unflushed _ _ _ _ _ _ _ finished short (ends-on finished clear empty ended).0, tt)
