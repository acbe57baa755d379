-- What the report of a run prints.
use Rattle.std.specs.{Str.bytes_eq, Prelude.{ℕ, ◌≡◌, ◌+◌, Bool, List, [], ◌∷◌, ◌++◌, count_by, map, codes, decimal, Result, OnOk, OnErr}}
use Rattle.tally_base.specs.{declared.{header.Header.Header, slot.Failed.Failed}, RecordTypes.name_of, Settings.{PartSettings, PartSettings.{HistSettings, TraceSettings, StartStopSettings}}}
use Rattle.tally_base.specs.{Settings.PartSettings.{CoincidenceSettings, ImageSettings, CorrelationSettings, CubeSettings, FoldSettings}, Tally.History}
use Rattle.{ptu_definitions.specs.{declared.records.Summary.Summary, Prefixes.each}, tally_engine.specs.{declared.{part.Part.Part, results.Results.Results}, contracts.part.PartTally.TheImpl.ghosts}}
use Rattle.{list_out.specs.Lines.{line, announced, bits_text, time_text}, table_out.specs.{Printed.{Printed, table_lines}, Histogram.histogram_printed, Trace.trace_printed}}
use Rattle.table_out.specs.{StartStop.startstop_printed, Coincidence.coincidence_printed, Image.image_printed, Correlation.correlation_printed, Cube.cube_printed, Fold.fold_printed}
use Rattle.bench_io.specs.Sinks.{SinkState, WroteShort, PassesOn, Wrote, CountsFault}

-- what stands before the tables
unfoldable pub head_text : Header → Summary → List ℕ
head_text header summary =
    line (codes "type") (name_of header.record_type) ++ line (codes "announced") (announced header.count) ++ line (codes "global") (bits_text header.global)
    ++ line (codes "resolution") (bits_text header.resolution) ++ line (codes "records") (decimal summary.records)
    ++ line (codes "photons") (decimal summary.photons) ++ line (codes "markers") (decimal summary.markers) ++ line (codes "wraps") (decimal summary.wraps)
    ++ line (codes "reserved") (decimal summary.reserved) ++ line (codes "late") (decimal summary.late) ++ line (codes "first") (time_text summary.first)
    ++ line (codes "last") (time_text summary.last)

-- how a table of these settings is printed
abbrev pub printed : PartSettings → Printed
printed (HistSettings set) = histogram_printed set
printed (TraceSettings set) = trace_printed set
printed (StartStopSettings set) = startstop_printed set
printed (CoincidenceSettings set) = coincidence_printed set
printed (ImageSettings set) = image_printed set
printed (CorrelationSettings set) = correlation_printed set
printed (CubeSettings set) = cube_printed set
printed (FoldSettings set) = fold_printed set

-- two tables of one kind have one name
abbrev pub same_kind : PartSettings → PartSettings → Bool
same_kind settings other = bytes_eq (printed settings).word (printed other).word

-- a table by its number and its settings, over the events that it was given
abbrev pub part_text : ℕ → PartSettings → History → List ℕ
part_text number settings = table_lines (printed settings) number

-- a table's settings, with the events that it stands for
abbrev pub Table : Type 0
Table = PartSettings × History

-- a table after others: its number is its place among those of its kind, from 1
abbrev pub table_text : List Table → Table → List ℕ
table_text before table = part_text (count_by (λ other. same_kind table.0 other.0) before + 1) table.0 table.1

-- tables one after the other
abbrev pub parts_text : List Table → List ℕ
parts_text tables = each table_text tables

-- the report of a run: its head, and its tables
unfoldable pub report : Header → Summary → List Table → List ℕ
report header summary tables = head_text header summary ++ parts_text tables

abbrev pub report_of : Results → List Table → List ℕ
report_of results tables = report results.header results.summary tables

-- tables that all stand for the same events
abbrev pub with_events : List PartSettings → History → List Table
with_events parts h = map (λ settings. (settings, h)) parts

-- A table has these settings, and stands for these events.
abbrev pub StandsFor : Part → Table → Type 0
StandsFor p table = (ghosts.settings p ≡ table.0) × ghosts.holds p table.1

-- The tables of the two lists are as many, and each stands for the one at its place.
abbrev pub EachHolds : List Part → List Table → Type 0
EachHolds [] [] = Unit {0}
EachHolds [] (table ∷ tables) = ⊥
EachHolds (p ∷ parts) [] = ⊥
EachHolds (p ∷ parts) (table ∷ tables) = StandsFor p table × EachHolds parts tables

-- What is put into a block of a text that depends on the events of a table, or of tables.

-- For everything that the table or the tables may stand for, the text is put after the bytes that the block held.
abbrev pub PutsText : {A : Type 0} → (A → Type 0) → (A → List ℕ) → SinkState → SinkState → List ℕ → List ℕ → Type 0
PutsText {A} holds text old new held now = (h : A) → holds h → PassesOn old new (held ++ text h) now

-- The sink has failed, and has only a beginning of them.
abbrev pub CutsText : {A : Type 0} → (A → Type 0) → (A → List ℕ) → SinkState → SinkState → List ℕ → Type 0
CutsText {A} holds text old new held = (h : A) → holds h → WroteShort old new (held ++ text h)

-- What came of putting such a text after the bytes that a block held.
pub record Puts {A : Type 0} (holds : A → Type 0) (text : A → List ℕ) (old new : SinkState) (held now : List ℕ) (result : Result (Unit {0}) Failed) : Type 0 where
  pub all : OnOk result (PutsText holds text old new held now)
  pub short : OnErr result (CutsText holds text old new held)
  pub cause : CountsFault old new result

-- What came of writing a report, whatever its tables stand for.
pub record WritesReport (results : Results) (old new : SinkState) (result : Result (Unit {0}) Failed) : Type 0 where
  pub text : OnOk result ((tables : List Table) → EachHolds results.parts.items tables → Wrote old new (report_of results tables))
  pub short : OnErr result ((tables : List Table) → EachHolds results.parts.items tables → WroteShort old new (report_of results tables))
  pub cause : CountsFault old new result
