-- One event more for a trace, and a block of them.
use Rattle.std.proofs.Common.{◌≡◌, ◌∙◌, ◌+◌, ◌≤◌, ℕ, List, [], ◌∷◌, ◌++◌, true, false, refl, ap, map, append_assoc, append-nil, arith, length, length-append}
use Rattle.{std.proofs.{Common.{◌&&◌, not, IsTrue, if◌then◌else◌, rules}, lemmas.List.length-map}, tally_base.specs.declared.event.Event.Event}
use Rattle.tally_base.specs.{declared.header.Mode.{Mode, TheVariants.{T2, T3}}, Events.{is_photon, is_ordered}, Tally.{History, floor_after, InOrder}}
use Rattle.{tally_base.proofs.Floors.order-looser, bench_io.{specs.Sinks.{SinkState, WroteShort, PassesOn}, proofs.Bytes.{WroteShort-passed, PassesOn-trans}}}
use Rattle.ptu_definitions.{specs.{Kept.Marked, Settled.not_marked}, proofs.DeliveredLaws.{not_marked-append, not_marked-false}}
use Rattle.{abs_time.{specs.Floors.orders_markers, proofs.Floors.moved_floor-push}, record_stream.{specs.Blocks.on_time, proofs.Steps.length-on_time}}
use Rattle.{record_stream.proofs.Gathering.floor_of-block, gate_plan.specs.{Shifting.{Sorting, shifted}, Taking.groups_in, Histories.with_groups}}
use Rattle.{gate_plan.proofs.Histories.{with_groups-more, order-shifted, floor-shifted}, long_trace.specs.declared.trace.LongTrace.LongTrace}
use Rattle.{long_trace.{specs.LongTrace.GivenMore, proofs.Steps.GivenMore-trans}, trace_work.specs.TraceOutcomes.{Traced, TracedShort}}

-- the floor of the trace stays below that of the stream
pub floor-below : (mode : Mode) (e : Event) (floor low : ℕ) → low ≤ floor → (IsTrue (is_ordered mode e && not false) → floor ≤ e.time)
    → (if is_photon e then e.time else low) ≤ (if is_ordered mode e && not false then e.time else floor)
floor-below T2 e floor low below order = search (rules, arith)
floor-below T3 e floor low below order = search (rules, arith)

-- the same of a block of them that are shifted
pub block-in_order : (mode : Mode) (by : Sorting) (low floor : ℕ) (es es' : List Event) → low ≤ floor
    → InOrder (orders_markers mode) floor es → es' ≡ map (shifted by) es → InOrder false low es'
block-in_order mode by low floor es es' below order is = search (rules, arith, order-shifted, order-looser)

pub block-below : (mode : Mode) (by : Sorting) (low floor : ℕ) (es es' : List Event)
    → low ≤ floor → InOrder (orders_markers mode) floor es → es' ≡ map (shifted by) es
    → floor_after false low es' ≤ floor_after (orders_markers mode) floor es
block-below mode by low floor es es' below order is = search (rules, arith, floor-shifted, order-looser)

pub block-length : (by : Sorting) (es es' : List Event) → es' ≡ map (shifted by) es → length es' ≡ length es
block-length by es es' is = ap length is ∙ length-shifted
  where
    length-shifted : length (map (shifted by) es) ≡ length es
    length-shifted = simp length-map

with-late : (by : Sorting) (l : Marked) (e : Event) → with_groups by (not_marked (l ++ (e, true) ∷ [])) ≡ with_groups by (not_marked l)
with-late by l e = ap (with_groups by) (not_marked-append l ((e, true) ∷ []) ∙ append-nil (not_marked l))

with-one : (by : Sorting) (l : Marked) (e : Event)
    → with_groups by (not_marked (l ++ (e, false) ∷ [])) ≡ with_groups by (not_marked l) ++ (shifted by e, groups_in by e) ∷ []
with-one by l e = ap (with_groups by) (not_marked-append l ((e, false) ∷ [])) ∙ with_groups-more by (not_marked l) (e ∷ [])

with-block : (by : Sorting) (l : Marked) (es : List Event) → with_groups by (not_marked (l ++ on_time es)) ≡ with_groups by (not_marked l) ++ with_groups by es
with-block by l es = search (rules, arith, not_marked-append, not_marked-false, with_groups-more)

module _ (start old : LongTrace) (by by' : Sorting) (mode mode' : Mode)
    (taken taken' floor floor' : ℕ) (a b : SinkState) (held held' : List ℕ) (l : Marked) where
  abbrev So_far : Type 0
  So_far = Traced start old by by' mode mode' taken taken' floor floor' a b held held' l

  -- a late event is passed over
  pub Traced-late : (e : Event) → So_far → Traced start old by by' mode mode' taken (taken' + 1) floor
      (if is_ordered mode' e && not true then e.time else floor') a b held held' (l ++ (e, true) ∷ [])
  Traced-late e h = search (rules, arith, length-append, moved_floor-push, with-late)

  module _ (now : LongTrace) (c : SinkState) (held'' : List ℕ) where
    -- a sink that fails
    short : (m : Marked) (more : History) (lines : List ℕ) → with_groups by (not_marked m) ≡ with_groups by (not_marked l) ++ more → So_far
        → GivenMore old now more lines → WroteShort b c (held' ++ lines) → held'' ≡ [] → TracedShort start by a c held held'' m
    short m more lines is h given cut none = record {
      lines = h.lines ++ lines;
      closed = rw is (GivenMore-trans start old now (with_groups by (not_marked l)) more h.lines lines h.given given).closed;
      text = rw (← append_assoc held h.lines lines) (WroteShort-passed a b c (held ++ h.lines) held' lines h.text cut);
      empty = none;
    }

    pub TracedShort-one : (e : Event) (lines : List ℕ) → So_far → GivenMore old now ((shifted by' e, groups_in by' e) ∷ []) lines
        → WroteShort b c (held' ++ lines) → held'' ≡ [] → TracedShort start by a c held held'' (l ++ (e, false) ∷ [])
    TracedShort-one e lines h given cut none =
        short (l ++ (e, false) ∷ []) ((shifted by e, groups_in by e) ∷ []) lines (with-one by l e) h (rw h.same_sorting at given) cut none

    pub TracedShort-block : (es : List Event) (lines : List ℕ) → So_far → GivenMore old now (with_groups by' es) lines
        → WroteShort b c (held' ++ lines) → held'' ≡ [] → TracedShort start by a c held held'' (l ++ on_time es)
    TracedShort-block es lines h given cut none = short (l ++ on_time es) (with_groups by es) lines (with-block by l es) h (rw h.same_sorting at given) cut none

    -- one event more
    pub Traced-one : (e : Event) (lines : List ℕ) → So_far → GivenMore old now ((shifted by' e, groups_in by' e) ∷ []) lines
        → PassesOn b c (held' ++ lines) held''
        → (IsTrue (is_ordered mode' e && not false) → floor' ≤ e.time)
        → Traced start now by by' mode mode' taken (taken' + 1) floor
        (if is_ordered mode' e && not false then e.time else floor') a c held held'' (l ++ (e, false) ∷ [])
    Traced-one e lines h given put order = record {
      same_sorting = h.same_sorting;
      same_mode = h.same_mode;
      counted = omega (arith, h.counted, length-append l ((e, false) ∷ []));
      moved = rw h.same_mode (moved_floor-push mode floor floor' l e false h.moved (rw h.same_mode at order));
      lines = h.lines ++ lines;
      given = rw (with-one by l e) (GivenMore-trans start old now (with_groups by (not_marked l))
          ((shifted by e, groups_in by e) ∷ []) h.lines lines h.given (rw h.same_sorting at given));
      text = rw (← append_assoc held h.lines lines) (PassesOn-trans a b c (held ++ h.lines) held' lines held'' h.text put);
    }

    -- a block of them
    pub Traced-block : (es : List Event) (lines : List ℕ) (next last : ℕ) → So_far
        → GivenMore old now (with_groups by' es) lines → PassesOn b c (held' ++ lines) held''
        → InOrder (orders_markers mode') floor' es → next ≡ taken' + length es → last ≡ floor_after (orders_markers mode') floor' es
        → Traced start now by by' mode mode' taken next floor last a c held held'' (l ++ on_time es)
    Traced-block es lines next last h given put in_order counted moves = record {
      same_sorting = h.same_sorting;
      same_mode = h.same_mode;
      counted = omega (arith, counted, h.counted, length-append l (on_time es), length-on_time es);
      moved = moves ∙ floor_of-block mode' l es floor floor' (rw h.same_mode h.moved) in_order ∙ rw h.same_mode refl;
      lines = h.lines ++ lines;
      given = rw (with-block by l es)
          (GivenMore-trans start old now (with_groups by (not_marked l)) (with_groups by es) h.lines lines h.given (rw h.same_sorting at given));
      text = rw (← append_assoc held h.lines lines) (PassesOn-trans a b c (held ++ h.lines) held' lines held'' h.text put);
    }
