-- How commands end by the header and the records of FILE, as cases over whole lists: relations, plain counts and the texts of lines. No function is cited that finds an answer for the program (`header_answer`, `plan_answer`, `fits`, `counted`, `record_refusal`, `streamed`, `given`, `seen`).
use Rattle.std.specs.Prelude.{ℕ, ◌≡◌, ◌≢◌, ◌⊎◌, ◌<◌, ◌≤◌, List, [], ◌∷◌, ◌++◌, length, take, get_or, map, flat_map, codes, decimal, nat_le, count_by, ◌+◌, ◌/◌, ◌==◌, true, None, Some, Result, Ok, Err}
use Rattle.std.specs.{List.filter, declared.option.Option.Option}
use Rattle.tally_base.specs.{declared.{event.Event.Event, fault.Fault.{Fault, TheVariants.{RecordLimit, TruncatedRecord, PickTime}}, header.{Header.Header, Mode.Mode}}, Faults.fault_in}
use Rattle.{tally_base.specs.{RecordTypes.mode_of, Settings.{PartSettings, StartStopView, TraceView, PartSettings.StartStopSettings}}, ptu_definitions.specs.declared.records.Summary.Summary}
use Rattle.ptu_definitions.specs.{TagList.Item, Endings.HasHeader, Headers.{HasAnswer, head_of, begun, IsLongestFront, HasNoFront}, Words.{words_of, rest_of, record_limit}, Layouts.meaning_of}
use Rattle.ptu_definitions.specs.{Kinds.counts_of, Prefixes.each, Settled.{kept_by, settled_by}, Times.events, Streams.{StreamSettings, refusal, events_in, summary_of, IsFirst}}
use Rattle.{plan_text.specs.Plan.{PlanView, parts_of}, coincidence.specs.Intervals.count_pairs, gate_plan.specs.{Shifting.sorting, Histories.{history, settled_history, reading_by}}}
use Rattle.{list_out.specs.{HeaderText.{preamble_text, item_text}, Lines.{events_text, line}}, table_out.specs.{Printed.{Printed, cell_line, table_lines}, StartStop.startstop_printed}}
use Rattle.{table_out.specs.Report.{head_text, printed, same_kind, Table, with_events}, file_work.specs.FileOutcomes.{counts_text, listing}, command_work.specs.Outcomes.{Outcome, refused, written}}
use Rattle.{trace_work.specs.TraceOutcomes.trace_of, pick_work.specs.PickOutcomes.chosen_by, record_write.specs.Picked.{is_too_late, picked_file}, photon_pick.specs.Late.too_late}
use Rattle.{long_trace.specs.Texts.{open_text, whole_text}, ptu_cli.specs.Tables.{AtHeader, AtCut, AtRecord, AtLate, Well, Lines, NoLine, Line, within}}

-- ## Records

-- No word is refused after those before it.
abbrev pub NoneRefused : StreamSettings → List ℕ → Type 0
NoneRefused how words = (k d : ℕ) → k < length words → refusal how (take k words) (get_or words k d) ≡ None

-- ## count

-- Too many records are refused, and then one that is cut. Else their counts are written.
abbrev pub count_lines : {K : Type 0} → Lines K (Header × List ℕ)
count_lines =
    Line AtRecord 20 20 (λ known found end. (record_limit < length (words_of found.1)) × (end ≡ refused (RecordLimit record_limit)))
    (Line AtCut 17 17 (λ known found end. (length (words_of found.1) ≤ record_limit) × (rest_of found.1 ≢ []) × (end ≡ refused (TruncatedRecord (length (rest_of found.1)))))
    (Line Well 0 0 (λ known found end. (length (words_of found.1) ≤ record_limit) × (rest_of found.1 ≡ [])
    × (end ≡ written (counts_text found.0 (counts_of (map (meaning_of found.0.record_type) (words_of found.1)))))) NoLine))

-- ## header

-- The longest front of the bytes, and the item that has begun after it, are printed so.
pub record PrintsFront (bytes text : List ℕ) : Type 0 where
  pub start : List ℕ
  pub items : List Item
  pub front : List ℕ
  pub rest : List ℕ
  pub longest : IsLongestFront bytes start items front rest
  pub text_is : text ≡ preamble_text start ++ flat_map item_text (items ++ begun rest)

-- The header that the bytes begin with is printed so.
pub record PrintsHeader (bytes text : List ℕ) : Type 0 where
  pub items : List Item
  pub found : HasHeader bytes items
  pub text_is : text ≡ preamble_text found.start ++ flat_map item_text items

abbrev pub Prints : List ℕ → List ℕ → Type 0
Prints bytes text = (HasNoFront bytes × (text ≡ [])) ⊎ (PrintsFront bytes text ⊎ PrintsHeader bytes text)

-- By the answer the run ends with its fault, or well. The first bytes are printed as far as they go.
pub record PrintCase (bytes : List ℕ) (answer : Result (Header × List ℕ) Fault) (end : Outcome) : Type 0 where
  pub is_answer : HasAnswer bytes answer
  pub fault_is : end.fault ≡ fault_in answer
  pub prints : Prints (head_of bytes) end.text

abbrev pub print_lines : {K : Type 0} → Lines K (List ℕ)
print_lines =
    Line AtHeader 10 16 (λ known bytes end. (fault : Fault) × PrintCase bytes (Err fault) end)
    (Line Well 0 0 (λ known bytes end. (found : Header × List ℕ) × PrintCase bytes (Ok found) end) NoLine)

-- ## events

-- A stream that is read so ends at the least record that is refused, with the text of those before it; at one that is cut, with that of all whole ones; or well, with the whole text.
abbrev pub stream_lines : {K : Type 0} → ℕ → ℕ → (K → Header → StreamSettings) → (K → Header → List ℕ → List ℕ) → (K → Header → List ℕ → List ℕ) → Lines K (Header × List ℕ)
stream_lines low high how text whole_text =
    Line AtRecord low high (λ known found end. (fault : Fault) × (least : IsFirst (how known found.0) fault [] (words_of found.1)) × (end ≡ record { text = text known found.0 least.front; fault = Some fault }))
    (Line AtCut 17 17 (λ known found end. NoneRefused (how known found.0) (words_of found.1) × (rest_of found.1 ≢ [])
    × (end ≡ record { text = text known found.0 (words_of found.1); fault = Some (TruncatedRecord (length (rest_of found.1))) }))
    (Line Well 0 0 (λ known found end. NoneRefused (how known found.0) (words_of found.1) × (rest_of found.1 ≡ []) × (end ≡ written (whole_text known found.0 (words_of found.1)))) NoLine))

-- the lines of the events of these words
abbrev pub list_text : Header → List ℕ → List ℕ
list_text header words = events_text (events_in (listing header) words)

-- ## run

-- A start-stop table whose cells count pairs of places of its events.
abbrev pub startstop_by_places : StartStopView → Printed
startstop_by_places set = record {
  word = (startstop_printed set).word;
  settings = (startstop_printed set).settings;
  rows = (startstop_printed set).rows;
  columns = (startstop_printed set).columns;
  cell = λ row b h. cell_line b (count_pairs set (λ time. time / set.width == b) h);
  rest = λ h. line (codes "over") (decimal (count_pairs set (λ time. nat_le set.bins (time / set.width)) h));
}

-- How a table is printed whose cells count places, or pairs of places, of its events.
abbrev pub by_places : PartSettings → Printed
by_places (StartStopSettings set) = startstop_by_places set
by_places settings = printed settings

-- a table after others, by its number among those of its kind
abbrev pub placed_text : List Table → Table → List ℕ
placed_text before it = table_lines (by_places it.0) (count_by (λ other. same_kind it.0 other.0) before + 1) it.1

abbrev pub report_by_places : Header → Summary → List Table → List ℕ
report_by_places header summary tables = head_text header summary ++ each placed_text tables

-- the report of these words by a plan
abbrev pub words_report : PlanView → Header → List ℕ → List ℕ
words_report view header words =
    let how = reading_by view header in
    report_by_places header (summary_of how.policy.settle how.mode (map how.meaning words) (events (map how.meaning words))) (with_events (parts_of view) (history (sorting view) how words))

-- ## trace

-- A plan has a trace.
abbrev pub HasTrace : PlanView → Type 0
HasTrace view = (set : TraceView) × (trace_of view ≡ Some set)

-- the lines of what these words have settled, and those of all at a good end
abbrev pub trace_text : PlanView × TraceView → Header → List ℕ → List ℕ
trace_text known header words = open_text known.1 (settled_history (sorting known.0) (reading_by known.0 header) words)

abbrev pub whole_trace : PlanView × TraceView → Header → List ℕ → List ℕ
whole_trace known header words = whole_text known.1 (history (sorting known.0) (reading_by known.0 header) words)

-- The lines for a plan's first trace.
abbrev pub traced_lines : Lines (PlanView × TraceView) (Header × List ℕ) → Lines PlanView (Header × List ℕ)
traced_lines lines = within (λ view found set. trace_of view ≡ Some set) (λ view found set. (view, set)) (λ view found set. found) lines

-- A plan's first trace is printed.
abbrev pub trace_lines : Lines PlanView (Header × List ℕ)
trace_lines = traced_lines (stream_lines 18 21 (λ known. reading_by known.0) trace_text whole_trace)

-- ## pick

-- The groups of a plan are numbered from 1, and it has one of this number.
abbrev pub HasGroup : ℕ → PlanView → Type 0
HasGroup group view = (1 ≤ group) × (group ≤ length view.groups)

-- the photons of the group in the settled list of these records: those that are written while more may come
abbrev pub settled_photons : PlanView → ℕ → Header → List ℕ → List Event
settled_photons view group header words =
    let how = reading_by view header in
    filter (chosen_by view group) (settled_by how.policy.settle how.mode (events (map how.meaning words)))

-- the photons of the group in the kept list of these records: all that are written where no more come
abbrev pub kept_photons : PlanView → ℕ → Header → List ℕ → List Event
kept_photons view group header words =
    let how = reading_by view header in
    filter (chosen_by view group) (kept_by how.policy.settle how.mode (events (map how.meaning words)))

-- One of these photons is too late to be written, and none before it.
pub record FirstLate (mode : Mode) (photons : List Event) : Type 0 where
  pub before : List Event
  pub photon : Event
  pub behind : List Event
  pub parts : photons ≡ before ++ photon ∷ behind
  pub none_before : too_late mode before ≡ []
  pub late : is_too_late mode photon.time ≡ true

-- A record settles a photon of the group that is too late. Neither this record nor one before it is refused, and no such photon is settled before.
pub record LateAtRecord (view : PlanView) (group : ℕ) (header : Header) (words : List ℕ) : Type 0 where
  pub front : List ℕ
  pub word : ℕ
  pub more : List ℕ
  pub parts : words ≡ (front ++ word ∷ []) ++ more
  pub unrefused : NoneRefused (reading_by view header) (front ++ word ∷ [])
  pub none_settled : too_late (mode_of header.record_type) (settled_photons view group header front) ≡ []
  pub first : FirstLate (mode_of header.record_type) (settled_photons view group header (front ++ word ∷ []))

-- The data are read to their end, and a photon of the group is too late in the kept list, but none that is settled before the end.
pub record LateAtEnd (view : PlanView) (group : ℕ) (header : Header) (behind : List ℕ) : Type 0 where
  pub unrefused : NoneRefused (reading_by view header) (words_of behind)
  pub whole : rest_of behind ≡ []
  pub none_settled : too_late (mode_of header.record_type) (settled_photons view group header (words_of behind)) ≡ []
  pub first : FirstLate (mode_of header.record_type) (kept_photons view group header (words_of behind))

-- A record is refused, and no photon of the group is too late that is settled by those before it.
pub record RefusedInTime (view : PlanView) (group : ℕ) (header : Header) (words : List ℕ) (fault : Fault) : Type 0 where
  pub least : IsFirst (reading_by view header) fault [] words
  pub in_time : too_late (mode_of header.record_type) (settled_photons view group header least.front) ≡ []

-- None of these records is refused, and no photon of the group is too late that is settled by them.
pub record SettledInTime (view : PlanView) (group : ℕ) (header : Header) (words : List ℕ) : Type 0 where
  pub unrefused : NoneRefused (reading_by view header) words
  pub in_time : too_late (mode_of header.record_type) (settled_photons view group header words) ≡ []

-- The data are read to their end, and no photon of the group is too late.
pub record AllPicked (view : PlanView) (group : ℕ) (header : Header) (behind : List ℕ) : Type 0 where
  pub unrefused : NoneRefused (reading_by view header) (words_of behind)
  pub whole : rest_of behind ≡ []
  pub in_time : too_late (mode_of header.record_type) (kept_photons view group header (words_of behind)) ≡ []

-- the file of some photons, and a fault
abbrev pub pick_end : Header → List Event → Option Fault → Outcome
pick_end header photons fault = record { text = picked_file (mode_of header.record_type) photons; fault = fault }

-- The first photon that is too late is named, and those before it are written. At a record that is refused, or where the last one is cut, those are written that are settled by the records before. At a good end all are.
abbrev pub pick_lines : ℕ → Lines PlanView (Header × List ℕ)
pick_lines group =
    Line AtLate 24 24 (λ view found end. (late : LateAtRecord view group found.0 (words_of found.1)) × (end ≡ pick_end found.0 late.first.before (Some (PickTime late.first.photon.place))))
    (Line AtRecord 18 21 (λ view found end. (fault : Fault) × (refusal : RefusedInTime view group found.0 (words_of found.1) fault)
    × (end ≡ pick_end found.0 (settled_photons view group found.0 refusal.least.front) (Some fault)))
    (Line AtCut 17 17 (λ view found end. SettledInTime view group found.0 (words_of found.1) × (rest_of found.1 ≢ [])
    × (end ≡ pick_end found.0 (settled_photons view group found.0 (words_of found.1)) (Some (TruncatedRecord (length (rest_of found.1))))))
    (Line AtLate 24 24 (λ view found end. (late : LateAtEnd view group found.0 found.1) × (end ≡ pick_end found.0 late.first.before (Some (PickTime late.first.photon.place))))
    (Line Well 0 0 (λ view found end. AllPicked view group found.0 found.1 × (end ≡ pick_end found.0 (kept_photons view group found.0 (words_of found.1)) None)) NoLine))))
