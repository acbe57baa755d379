-- One line more, and the lines of a piece.
use Rattle.std.proofs.Common.{◌≡◌, ◌+◌, ◌≤◌, ℕ, List, [], ◌∷◌, ◌++◌, Bool, Ok, Err, refl, sym, ap, subst, ◌∙◌, inl, inr, append_assoc, arith, length, max}
use Rattle.std.{proofs.Common.{length-append, ◌&&◌, not, IsTrue, if◌then◌else◌}, specs.declared.result.Result.Result}
use Rattle.tally_base.specs.{declared.{event.Event.Event, header.Mode.Mode, fault.Fault.Fault}, Events.is_ordered, Tally.{floor_after, InOrder}}
use Rattle.bench_io.{specs.{Sinks.{SinkState, WroteShort, PassesOn}, Texts.PutText}, proofs.Bytes.{WroteShort-more, WroteShort-passed, PassesOn-trans}}
use Rattle.{bench_io.proofs.Texts.PutsText, ptu_definitions.specs.{Kept.{Marked, floor_of}, Streams.{StreamSettings, record_refusal, given}}}
use Rattle.{list_out.specs.Lines.{events_text, lines_of}, record_stream.specs.{declared.taker.EventTaker.Ghosts, Feeding.{GaveOn, Fed}, Blocks.on_time}}
use Rattle.{record_stream.proofs.Gathering.floor_of-block, abs_time.{specs.Floors.orders_markers, proofs.Floors.moved_floor-push}}
use Rattle.file_work.specs.{EventLines.{Listed, ListedShort}, EventLaws.events_text-append}

-- the lines of more events
pub lines_more : (held : List ℕ) (l more : Marked) (lines : List ℕ) → lines ≡ events_text more → (held ++ events_text l) ++ lines ≡ held ++ events_text (l ++ more)
lines_more held l more lines is =
    ap (λ t. (held ++ events_text l) ++ t) is ∙ append_assoc held (events_text l) (events_text more) ∙ ap (λ t. held ++ t) (sym (events_text-append l more))

pub Listed-more : {name name' name'' : ℕ} {mode mode' mode'' : Mode} {taken taken' next floor floor' now : ℕ} {a b c : SinkState} {held held' held'' : List ℕ} (l more : Marked) (lines : List ℕ)
    → Listed name name' mode mode' taken taken' floor floor' a b held held' l → name'' ≡ name' → mode'' ≡ mode' → lines ≡ events_text more → PassesOn b c (held' ++ lines) held'' → next ≡ taken' + length more
    → (mode' ≡ mode → floor' ≡ max floor (floor_of mode l) → now ≡ max floor (floor_of mode (l ++ more))) → Listed name name'' mode mode'' taken next floor now a c held held'' (l ++ more)
Listed-more {a = a} {b = b} {c = c} {held = held} {held' = held'} {held'' = held''} l more lines h sink same is p counted moves = record {
  same_sink = sink ∙ h.same_sink;
  same_mode = same ∙ h.same_mode;
  counted = omega (arith, counted, h.counted, length-append l more);
  moved = moves h.same_mode h.moved;
  text = subst (λ t. PassesOn a c t held'') (lines_more held l more lines is) (PassesOn-trans a b c (held ++ events_text l) held' lines held'' h.text p);
}

pub ListedShort-more : {name name' : ℕ} {mode mode' : Mode} {taken taken' floor floor' : ℕ} {a b c : SinkState} {held held' held'' : List ℕ} (l more : Marked) (lines : List ℕ)
    → Listed name name' mode mode' taken taken' floor floor' a b held held' l → lines ≡ events_text more → WroteShort b c (held' ++ lines) → held'' ≡ [] → ListedShort a c held held'' (l ++ more)
ListedShort-more {a = a} {b = b} {c = c} {held = held} {held' = held'} l more lines h is p none =
    record { text = subst (λ t. WroteShort a c t) (lines_more held l more lines is) (WroteShort-passed a b c (held ++ events_text l) held' lines h.text p); empty = none }

-- the last time, after one event and after a block of them
pub floor-event : (mode mode' : Mode) (floor floor' now : ℕ) (l : Marked) (e : Event) (late : Bool) → (IsTrue (is_ordered mode' e && not late) → floor' ≤ e.time) → now ≡ (if is_ordered mode' e && not late then e.time else floor')
    → mode' ≡ mode → floor' ≡ max floor (floor_of mode l) → now ≡ max floor (floor_of mode (l ++ (e, late) ∷ []))
floor-event mode mode' floor floor' now l e late in_order moves same moved =
    moves ∙ rw same (moved_floor-push mode floor floor' l e late moved (rw same at in_order))

pub floor-block : (mode mode' : Mode) (floor floor' now : ℕ) (l : Marked) (es : List Event) → InOrder (orders_markers mode') floor' es → now ≡ floor_after (orders_markers mode') floor' es
    → mode' ≡ mode → floor' ≡ max floor (floor_of mode l) → now ≡ max floor (floor_of mode (l ++ on_time es))
floor-block mode mode' floor floor' now l es in_order moves same moved = moves ∙ floor_of-block mode' l es floor floor' (rw same moved) in_order ∙ rw same refl

lines-add : (how : StreamSettings) (words now : List ℕ) (more : Marked)
    → given how now ≡ given how words ++ more → lines_of how now ≡ lines_of how words ++ events_text more
lines-add how words now more adds = ap events_text adds ∙ events_text-append (given how words) more

-- What a piece put, by what its events were.
module _ {T : Type 0} (g : Ghosts T) (told : T → SinkState) (held : T → List ℕ) (how : StreamSettings) (a b : T) (words now : List ℕ)
    (none : g.got a a []) (gets : (l : Marked) → g.got a b l → PassesOn (told a) (told b) (events_text l) (held b))
    (breaks : (l : Marked) → g.broke a b l → WroteShort (told a) (told b) (events_text l) × (held b ≡ [])) where
  gave : GaveOn g how a b words now → PutText (lines_of how words) (lines_of how now) (told a) (told b) [] (held b)
  gave r = record { more = events_text r.more; adds = lines-add how words now r.more r.adds; put = gets r.more (r.follows a [] none) }

  pub puts-lines : {X : Type 0} (r : Result X Fault) → Fed g how a b words now r → PutsText (lines_of how words) (lines_of how now) (record_refusal how now) (told a) (told b) (held b) r
  puts-lines (Ok x) fed = (fed.0, gave fed.1)
  puts-lines (Err fault) (inl fed) = inl (fed.0, gave fed.1)
  puts-lines (Err fault) (inr fed) =
      let broken = breaks fed.1.front (fed.1.broken a [] none) in
      inr (
        fed.0,
        record {
          more = events_text (fed.1.front ++ fed.1.back);
          adds = lines-add how words now (fed.1.front ++ fed.1.back) fed.1.adds;
          cut = rw (events_text-append fed.1.front fed.1.back) (WroteShort-more (told a) (told b) (events_text fed.1.front) (events_text fed.1.back) broken.0);
        },
        broken.1,
      )
