-- What `count`, `events`, `run`, `trace` and `demo` end with is what their tables call for.
use Rattle.std.proofs.Common.{◌≡◌, ℕ, zero, suc, List, [], ◌∷◌, ◌++◌, length, Bool, true, false, None, Some, Ok, Err, refl, sym, ap, ◌∙◌, ◌⊎◌, ◌≤◌, subst, inl}
use Rattle.std.{proofs.Common.{inr, arith, ◌==◌, Result, nat_lt, map, if◌then◌else◌, rules}, specs.declared.option.Option.Option}
use Rattle.tally_base.specs.{declared.{fault.Fault.{Fault, TheVariants.{RecordLimit, TruncatedRecord, NoTrace}}, header.Header.Header}, Faults.fault_in}
use Rattle.{tally_base.specs.{Settings.{PartSettings, StartStopView, TraceView}, Tally.History}, bench_io.specs.Inputs.File}
use Rattle.ptu_definitions.specs.{declared.records.Summary.Summary, Words.{words_of, rest_of, record_limit, records_of, counted}, Layouts.meaning_of}
use Rattle.ptu_definitions.specs.{Kinds.counts_of, Prefixes.each_after, Streams.{IsFirst, StreamSettings, record_refusal, summary, summary_of, streamed}}
use Rattle.ptu_definitions.{specs.Times.events, proofs.{Firsts.{first-refusal, refused-first, none-refused, given-before, given-all}, Walks.is_less}}
use Rattle.{ptu_definitions.proofs.Walks.not_less, record_stream.proofs.Lasts.streamed-refused, plan_text.specs.Plan.{PlanView, parts_of}}
use Rattle.{coincidence.proofs.Intervals.intervals_are_pairs, gate_plan.specs.{Shifting.sorting, Histories.{history, reading_by}}}
use Rattle.{list_out.specs.Lines.{events_text, lines_of}, table_out.specs.{Printed.{texts, table_lines}, StartStop.startstop_printed, Report.head_text}}
use Rattle.{table_out.specs.Report.{printed, Table, table_text, report, with_events}, ptu_made.specs.{Generator.made_words, Records.made_header}}
use Rattle.{long_trace.specs.Texts.open_text, report_work.specs.{Reports.{reported, reports}, Demo.{demo_plan, demo_report}}}
use Rattle.{file_work.specs.FileOutcomes.{counts_text, counted_end, counts, listing, lists_by}, trace_work.specs.TraceOutcomes.{trace_of, no_trace, traced}}
use Rattle.{trace_work.specs.{TraceOutcomes.{records_traced, traces_with}, TraceTexts.{settled-whole, settled-first}}, command_work.specs.Outcomes.Outcome}
use Rattle.{command_work.{specs.Outcomes.{refused, written}, proofs.RestEnds.{end_with, same-end}}, ptu_cli.proofs.ByteFaults.{least-status, StatusIn, OfSome}}
use Rattle.ptu_cli.proofs.{ByteFaults.refusal-in, Tables.{Meets, in_range, as-status, in-within, of-within, within-sound}, CaseSteps.{lt-true, lt-false}}
use Rattle.ptu_cli.{proofs.CaseSteps.{empty-true, empty-false, true-empty, false-empty, whole_answer, streamed-clear}, specs.Tables.{Lines, Applies}}
use Rattle.ptu_cli.specs.Cases.{count_lines, stream_lines, list_text, startstop_by_places, by_places, placed_text, report_by_places, words_report, trace_text}
use Rattle.ptu_cli.specs.{Cases.{whole_trace, HasTrace, traced_lines, trace_lines}, CommandCases.{NeedsNothing, Has}}

-- ## A report by places

texts-same : (f g : ℕ → List ℕ) (n : ℕ) → ((k : ℕ) → f k ≡ g k) → texts f n ≡ texts g n
texts-same f g zero same = refl
texts-same f g (suc n) same = rw (texts-same f g n same, same n) refl

startstop-same : (set : StartStopView) (number : ℕ) (h : History)
    → table_lines (startstop_by_places set) number h ≡ table_lines (startstop_printed set) number h
unfolding startstop_printed
startstop-same set number h = search (rules, arith, texts-same, intervals_are_pairs)

part-same : (settings : PartSettings) (number : ℕ) (h : History) → table_lines (by_places settings) number h ≡ table_lines (printed settings) number h
part-same settings number h = search (rules, arith, startstop-same)

each-same : {A B : Type 0} (f g : List A → A → List B) (before xs : List A)
    → ((before : List A) (x : A) → f before x ≡ g before x) → each_after f before xs ≡ each_after g before xs
each-same f g before [] same = refl
each-same f g before (x ∷ xs) same = rw (same before x, each-same f g (before ++ x ∷ []) xs same) refl

report-same : (header : Header) (sum : Summary) (tables : List Table) → report_by_places header sum tables ≡ report header sum tables
unfolding report
report-same header sum tables = ap (λ l. head_text header sum ++ l) (each-same placed_text table_text [] tables (λ before it. part-same it.0 _ it.1))

summary-same : (how : StreamSettings) (words : List ℕ)
    → summary how words ≡ summary_of how.policy.settle how.mode (map how.meaning words) (events (map how.meaning words))
unfolding summary
summary-same how words = refl

words-same : (view : PlanView) (header : Header) (words : List ℕ) → report header (summary (reading_by view header) words) (with_events (parts_of view) (history (sorting view) (reading_by view header) words)) ≡ words_report view header words
words-same view header words = search (rules, arith, summary-same, report-same)

-- ## count

abbrev count_text : Header → List ℕ → List ℕ
count_text header behind = counts_text header (counts_of (map (meaning_of header.record_type) (words_of behind)))

abbrev count_end : Header → List ℕ → Bool → Bool → Outcome
count_end header behind many whole =
    if many then refused (RecordLimit record_limit) else if whole then written (count_text header behind) else refused (TruncatedRecord (length (rest_of behind)))

count-steps : (header : Header) (behind : List ℕ) → counted_end header (counted header.record_type behind)
    ≡ count_end header behind (nat_lt record_limit (length (words_of behind))) (length (rest_of behind) == 0)
unfolding counted records_of
count-steps header behind = search (rules, arith)

count-by : {K : Type 0} (known : K) (header : Header) (behind : List ℕ) (many whole : Bool) → nat_lt record_limit (length (words_of behind)) ≡ many
    → (length (rest_of behind) == 0) ≡ whole → Applies count_lines known (header, behind) (count_end header behind many whole)
count-by known header behind many whole m w = search (rules, arith, lt-true, lt-false, empty-false, empty-true)

count-only : {K : Type 0} (known : K) (header : Header) (behind : List ℕ) (end : Outcome) → Applies count_lines known (header, behind) end
    → count_end header behind (nat_lt record_limit (length (words_of behind))) (length (rest_of behind) == 0) ≡ end
count-only known header behind end h = search (rules, arith, count_end, is_less, not_less, false-empty, true-empty)

pub count-meets : Meets {K = File} (λ known. Unit {0}) count_lines (λ known found. (counts found.0).ends found.1)
count-meets = record {
  holds = λ known found given. subst (Applies count_lines known found) (sym (count-steps found.0 found.1)) (count-by known found.0 found.1 _ _ refl refl);
  only = λ known found end given h. count-steps found.0 found.1 ∙ count-only known found.0 found.1 end h;
  sound = (in_range 18 21 20 20 (omega arith) (omega arith), λ end known found e. as-status 20 20 end _ e.1 (omega arith, omega arith), (λ n s. s, λ end known found e. as-status 17 17 end _ e.2 (omega arith, omega arith), (λ n s. s, λ end known found e. as-status 0 0 end _ e.2 (omega arith, omega arith), tt)));
}

-- ## Streams

-- what a command makes of a stream that is read so
record Streams (how : StreamSettings) (text_of : List ℕ → List ℕ) (whole_text behind : List ℕ) (out : Result Summary Fault → Outcome) : Type 0 where
  refused_is : (fault : Fault) (least : IsFirst how fault [] (words_of behind)) → out (Err fault) ≡ end_with (text_of least.front) (Some fault)
  cut_is : record_refusal how (words_of behind) ≡ None → (fault : Fault) → out (Err fault) ≡ end_with (text_of (words_of behind)) (Some fault)
  whole_is : record_refusal how (words_of behind) ≡ None → out (Ok (summary how (words_of behind))) ≡ written whole_text

module _ {K : Type 0} (given : K → Type 0) (low high : ℕ) (how : K → Header → StreamSettings) (text whole_text : K → Header → List ℕ → List ℕ) (out : K → Header → List ℕ → Result Summary Fault → Outcome)
    (told : (known : K) (header : Header) (behind : List ℕ) → Streams (how known header) (text known header) (whole_text known header (words_of behind)) behind (out known header behind)) where
  abbrev lines : Lines K (Header × List ℕ)
  lines = stream_lines low high how text whole_text

  first-end : (known : K) (header : Header) (behind : List ℕ) (fault : Fault) (least : IsFirst (how known header) fault [] (words_of behind))
      → out known header behind (streamed (how known header) behind) ≡ end_with (text known header least.front) (Some fault)
  first-end known header behind fault least =
      ap (out known header behind) (sym (streamed-refused (how known header) behind fault (refused-first (how known header) (words_of behind) fault least)))
      ∙ (told known header behind).refused_is fault least

  clear-end : (known : K) (header : Header) (behind : List ℕ) → record_refusal (how known header) (words_of behind) ≡ None → (whole : Bool) → (length (rest_of behind) == 0) ≡ whole
      → out known header behind (streamed (how known header) behind) ≡ out known header behind (whole_answer (how known header) behind whole)
  clear-end known header behind none whole is = search (rules, arith, streamed-clear, whole_answer)

  stream-holds : (known : K) (header : Header) (behind : List ℕ) (o : Option Fault) (whole : Bool) → record_refusal (how known header) (words_of behind) ≡ o
      → (length (rest_of behind) == 0) ≡ whole → Applies lines known (header, behind) (out known header behind (streamed (how known header) behind))
  stream-holds known header behind (Some fault) whole e is =
      let least = first-refusal (how known header) (words_of behind) fault e in inl (fault, least, first-end known header behind fault least)
  stream-holds known header behind None false none is = inr (inl (
    (none-refused (how known header) (words_of behind)).0 none,
    empty-false (rest_of behind) is,
    clear-end known header behind none false is ∙ (told known header behind).cut_is none _,
  ))
  stream-holds known header behind None true none is = inr (inr (inl (
    (none-refused (how known header) (words_of behind)).0 none,
    empty-true (rest_of behind) is,
    clear-end known header behind none true is ∙ (told known header behind).whole_is none,
  )))

  stream-only : (known : K) (header : Header) (behind : List ℕ) (end : Outcome) → Applies lines known (header, behind) end
      → out known header behind (streamed (how known header) behind) ≡ end
  stream-only known header behind end (inl h) = first-end known header behind h.0 h.1 ∙ sym h.2
  stream-only known header behind end (inr (inl h)) = let none = (none-refused (how known header) (words_of behind)).1 h.0 in
      clear-end known header behind none false (false-empty (rest_of behind) h.1) ∙ (told known header behind).cut_is none _ ∙ sym h.2
  stream-only known header behind end (inr (inr (inl h))) = let none = (none-refused (how known header) (words_of behind)).1 h.0 in
      clear-end known header behind none true (true-empty (rest_of behind) h.1) ∙ (told known header behind).whole_is none ∙ sym h.2
  stream-only known header behind end (inr (inr (inr never))) = absurd never

  stream-meets : 18 ≤ low → high ≤ 21
      → ((known : K) (header : Header) (behind : List ℕ) (fault : Fault) → IsFirst (how known header) fault [] (words_of behind) → StatusIn low high fault)
      → Meets given lines (λ known found. out known found.0 found.1 (streamed (how known found.0) found.1))
  stream-meets least most status = record {
    holds = λ known found has. stream-holds known found.0 found.1 _ _ refl refl;
    only = λ known found end has h. stream-only known found.0 found.1 end h;
    sound = (in_range 18 21 low high least most, λ end known found e. as-status low high end _ e.2 (status known found.0 found.1 e.0 e.1), (λ n s. s, λ end known found e. as-status 17 17 end _ e.2 (omega arith, omega arith), (λ n s. s, λ end known found e. as-status 0 0 end _ e.2 (omega arith, omega arith), tt)));
  }

-- ## events

-- late events and reserved records are refused by no listing
listed-status : (header : Header) (behind : List ℕ) (fault : Fault) → IsFirst (listing header) fault [] (words_of behind) → StatusIn 20 21 fault
listed-status header behind fault h = search (rules, arith, OfSome, refusal-in)

list-streams : (header : Header) (behind : List ℕ) → Streams (listing header) (list_text header)
    (list_text header (words_of behind)) behind (λ r. end_with (lines_of (listing header) (words_of behind)) (fault_in r))
list-streams header behind = record {
  refused_is = λ fault least. ap (λ l. end_with (events_text l) (Some fault)) (given-before (listing header) (words_of behind) fault least);
  cut_is = λ none fault. ap (λ l. end_with (events_text l) (Some fault)) (given-all (listing header) (words_of behind) none);
  whole_is = λ none. ap (λ l. written (events_text l)) (given-all (listing header) (words_of behind) none);
}

pub events-meets : Meets {K = File} (λ known. Unit {0}) (stream_lines 20 21 (λ known. listing) (λ known. list_text) (λ known. list_text)) (λ known found. (lists_by found.0).ends found.1)
events-meets = stream-meets (λ known. Unit {0}) 20 21 (λ known. listing) (λ known. list_text) (λ known. list_text) _ (λ known. list-streams) (omega arith) (omega arith) (λ known. listed-status)

-- ## run

run-streams : (view : PlanView) (header : Header) (behind : List ℕ) → Streams (reading_by view header) (λ words. [])
    (words_report view header (words_of behind)) behind (reported view header behind)
run-streams view header behind = search (rules, arith, words-same)

pub run-meets : Meets (Has NeedsNothing) (stream_lines 18 21 reading_by (λ view header words. []) words_report) (λ view found. (reports view found.0).ends found.1)
run-meets = stream-meets (Has NeedsNothing) 18 21 reading_by (λ view header words. []) words_report reported run-streams (omega arith) (omega arith) (λ view header. least-status (reading_by view header))

-- ## trace

abbrev trace_out : PlanView × TraceView → Header → List ℕ → Result Summary Fault → Outcome
trace_out known header = traced (Some known.1) (sorting known.0) (reading_by known.0 header)

trace-streams : (known : PlanView × TraceView) (header : Header) (behind : List ℕ)
    → Streams (reading_by known.0 header) (trace_text known header) (whole_trace known header (words_of behind)) behind (trace_out known header behind)
trace-streams known header behind = record {
  refused_is = λ fault least. same-end _ _ _ (ap (open_text known.1) (settled-first (sorting known.0) (reading_by known.0 header) (words_of behind) fault least)) refl;
  cut_is = λ none fault. same-end _ _ _ (ap (open_text known.1) (settled-whole (sorting known.0) (reading_by known.0 header) (words_of behind) none)) refl;
  whole_is = λ none. refl;
}

pub trace-decides : (view : PlanView) → (HasTrace view × (no_trace view ≡ None)) ⊎ ((HasTrace view → ⊥) × (no_trace view ≡ Some NoTrace))
trace-decides view = search (rules, arith)

abbrev trace_end : PlanView → Header × List ℕ → Option TraceView → Outcome
trace_end view found o = records_traced o (sorting view) (reading_by view found.0) found.1

traced-meets : (lines : Lines (PlanView × TraceView) (Header × List ℕ))
    → Meets (λ known. Unit {0}) lines (λ known found. trace_out known found.0 found.1 (streamed (reading_by known.0 found.0) found.1))
    → Meets HasTrace (traced_lines lines) (λ view found. trace_end view found (trace_of view))
traced-meets lines told = record {
  holds = λ view found has. subst (λ (o : Option TraceView). Applies (traced_lines lines) view found (trace_end view found o)) (sym has.1)
      (in-within _ _ _ lines view found has.0 _ has.1 (told.holds (view, has.0) found tt));
  only = λ view found end has h. let it = of-within _ _ _ lines view found end h in
      ap (trace_end view found) it.1 ∙ told.only (view, it.0) found end tt it.2;
  sound = within-sound _ _ _ lines told.sound;
}

pub trace-meets : Meets HasTrace trace_lines (λ view found. (traces_with (trace_of view) (sorting view) (reading_by view found.0)).ends found.1)
trace-meets = traced-meets (stream_lines 18 21 (λ known. reading_by known.0) trace_text whole_trace)
    (stream-meets (λ known. Unit {0}) 18 21 (λ known. reading_by known.0) trace_text whole_trace trace_out trace-streams
    (omega arith) (omega arith) (λ known header. least-status (reading_by known.0 header)))

-- ## demo

pub demo-same : (seed count : ℕ) → demo_report seed count ≡ words_report demo_plan made_header (made_words seed count)
unfolding demo_report
demo-same seed count = words-same demo_plan made_header (made_words seed count)
