use Rattle.std.proofs.{Common.{arith, rules, sym, append-nil, ◌≡◌, ◌+◌, ℕ, List, ◌++◌, refl, ap, subst, ◌∙◌, take, drop}, lemmas.List.map-append}
use Rattle.{std.proofs.{lemmas.{List.{take-append-drop, take_all}, Result.err_from_is_err_and}, Math.Seq.take-add}, tally_base.specs.Columns.gathered}
use Rattle.{tally_base.specs.declared.event.Event.Event, bench_io.{specs.Sinks.{WroteShort, PassesOn}, proofs.Bytes.{WroteShort-passed, PassesOn-held}}}
use Rattle.{bench_io.proofs.Bytes.PassesOn-trans, record_stream.{specs.Blocks.on_time, proofs.Steps.length-on_time}, list_out.specs.Lines.events_text}
use Rattle.file_work.proofs.EventSteps.{lines_more, Listed-more, ListedShort-more, floor-block}
use Rattle.file_work.proofs.events.EventLinesEventTaker.take_block.Goals as goal

-- the lines of a part more
part_more : (held : List ℕ) (es : List Event) (from : ℕ) (lines : List ℕ) → lines ≡ events_text (on_time (take 64 (drop from es)))
    → (held ++ events_text (on_time (take from es))) ++ lines ≡ held ++ events_text (on_time (take (from + 64) es))
part_more held es from lines is =
    lines_more held (on_time (take from es)) (on_time (take 64 (drop from es))) lines is
    ∙ ap (λ l. held ++ events_text l) (sym (map-append _ (take from es) (take 64 (drop from es)))) ∙ ap (λ l. held ++ events_text (on_time l)) (sym (take-add from 64 es))

pub parts-init : goal.parts-init
parts-init g c = record { sink = refl; mode = refl; taken = refl; floor = refl; text = rw (append-nil c.args.self.now.block) (PassesOn-held _ _) }

pub parts-preserved : goal.parts-preserved
parts-preserved g c =
    let inv = c.parts.invariant in
    let es = gathered c.args.block.now in
    record {
      sink = search (rules, arith);
      mode = inv.mode;
      taken = inv.taken;
      floor = inv.floor;
      text = subst (λ t. PassesOn (g.O.Sink.state c.args.self.now.out.now) (g.O.Sink.state c.put.new.sink) t c.put.new.self) (part_more _ es c.parts.from _ c.format_block-lines.ensures)
          (PassesOn-trans _ _ _ _ _ _ _ inv.text c.in_ok-put.ensures.all);
    }

pub returns-in_err-put-clause-broken : goal.returns-in_err-put-clause-broken
returns-in_err-put-clause-broken g c =
    let inv = c.parts.invariant in
    let es = gathered c.args.block.now in
    let front = take (c.parts.from + 64) es in
    let p = err_from_is_err_and c.from_residual.result c.from_residual.ensures.1 in
    let short = subst (λ t. WroteShort (g.O.Sink.state c.args.self.now.out.now) (g.O.Sink.state c.put.new.sink) t) (part_more _ es c.parts.from _ c.format_block-lines.ensures)
    (WroteShort-passed _ _ _ _ _ _ inv.text c.in_err-put.ensures.short) in
    rw p.1 (record {
      front = front;
      back = drop (c.parts.from + 64) es;
      some = search (rules, arith);
      are = sym (take-append-drop (c.parts.from + 64) es);
      broken = λ start l h. ListedShort-more l _ _ h refl short c.in_err-put.ensures.empty;
    })

pub returns-clause-follows : goal.returns-clause-follows
returns-clause-follows g c = λ start l h.
    let inv = c.parts.invariant in
    let es = gathered c.args.block.now in
    let all : take c.parts.from es ≡ es = take_all c.parts.from es (search (rules, arith)) in
    Listed-more l (on_time es) _ h inv.sink inv.mode refl (rw all at inv.text) (rw length-on_time (search (rules, arith, inv.taken))) (floor-block _ _ _ _ _ l es c.requires.in_order (search (rules, arith, inv.mode, inv.floor)))
