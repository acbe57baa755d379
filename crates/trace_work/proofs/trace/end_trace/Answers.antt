use Rattle.std.proofs.{lemmas.Result.err_from_is_err_and, Common.{◌≡◌, ℕ, List, Some, Ok, Err, refl, inl, inr, Result, OnOk, OnErr, IfErr}}
use Rattle.{gate_plan.specs.{Groups.sorting_of, Shifting.Sorting, Histories.history}, record_stream.specs.Standing.how_of}
use Rattle.tally_base.specs.{declared.fault.Fault.{Fault, TheVariants.WriteFault}, Faults.fault_in, Settings.{TraceView, trace_view}, Tally.History}
use Rattle.bench_io.{specs.{Sinks.SinkState, Texts.{WritesText, WroteText, CutText}}, proofs.Texts.{WroteText-trans, CutText-behind, CutText-more}}
use Rattle.ptu_definitions.specs.{declared.records.Summary.Summary, Words.words_of, Streams.StreamSettings}
use Rattle.long_trace.{specs.{declared.trace.LongTrace.LongTrace, LongTrace.set_of, Texts.{open_text, whole_text}}, proofs.Rising.whole-front}
use Rattle.trace_work.specs.{TraceOutcomes.{words_traced, traced}, TracePieces.text_by}
use Rattle.trace_work.proofs.trace.end_trace.Goals as goal

module _ (by : Sorting) (how : StreamSettings) (trace : LongTrace) (bytes : List ℕ) where
  abbrev set : TraceView
  set = trace_view (set_of trace)

  abbrev text : List ℕ
  text = words_traced (Some set) by how (words_of bytes)

  abbrev all : History
  all = history by how (words_of bytes)

  -- The lines of what was kept back were not all written.
  last-refused : (old new : SinkState) (r : Result Summary Fault) (fault : Fault) → WritesText {X = Unit {0}} text (text_by trace by how bytes r) (fault_in r) old new (Err fault)
      → WritesText {X = Unit {0}} text (traced (Some set) by how bytes r).text (traced (Some set) by how bytes r).fault old new (Err fault)
  last-refused old new (Ok summary) fault (inl h) = cc
  last-refused old new (Ok summary) fault (inr h) = let front = whole-front set all in inr (h.0, CutText-more _ _ _ front.0 _ _ front.1 h.1)
  last-refused old new (Err own) fault h = h

  -- They were written, and then the rest.
  last-ended : (old mid new : SinkState) (r : Result Summary Fault) (done : Result (Unit {0}) Fault) → WritesText {X = Unit {0}} text (text_by trace by how bytes r) (fault_in r) old mid (Ok tt)
      → OnOk done (WroteText (open_text set all) (whole_text set all) mid new) → OnErr done (CutText (open_text set all) (whole_text set all) mid new) → IfErr done (λ fault. fault ≡ WriteFault)
      → WritesText text (traced (Some set) by how bytes r).text (traced (Some set) by how bytes r).fault old new done
  last-ended old mid new (Ok summary) (Ok done) h rest cut write = (refl, WroteText-trans _ _ _ _ _ _ h.1 rest)
  last-ended old mid new (Ok summary) (Err fault) h rest cut write = inr (write, CutText-behind _ _ _ _ _ _ h.1 cut)
  last-ended old mid new (Err own) done h rest cut write = cc h.0

pub returns-in_err-last_lines : goal.returns-in_err-last_lines
returns-in_err-last_lines g c = λ bytes h holds.
    let p = err_from_is_err_and c.from_residual.result c.from_residual.ensures.1 in
    rw p.1 (rw p.2 (last-refused (sorting_of c.args.gates.now) (how_of c.args.stream) c.args.trace bytes _ _ _ _ (c.in_err-last_lines.ensures.writes bytes h holds).writes))

pub returns : goal.returns
returns g c = λ bytes h holds.
    let last = c.in_ok-last_lines.ensures.writes bytes h holds in
    last-ended (sorting_of c.args.gates.now) (how_of c.args.stream) c.args.trace bytes _ _ _ _ c.finish.result last.writes
    (rw c.last_lines.ensures.set at (c.finish.ensures.text _ last.stands)) (rw c.last_lines.ensures.set at (c.finish.ensures.short _ last.stands)) c.finish.ensures.refuses.fault
