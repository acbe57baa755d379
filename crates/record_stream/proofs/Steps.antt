-- One word more.
use Rattle.std.proofs.Common.{rules, ◌≡◌, ◌+◌, ◌<◌, ℕ, List, [], ◌∷◌, ◌++◌, false, None, Some, Ok, Err, OnOk, OnErr, IfOk, IfErr, length, map, refl, sym, ap}
use Rattle.std.proofs.Common.{subst, ◌∙◌, append-nil, add-zero, arith, length-append, ◌&&◌, ◌≤◌, true, is_err, ◌^◌, max, append_assoc, IsTrue, if◌then◌else◌}
use Rattle.std.{proofs.lemmas.List.{map-append, map_push, Elements.All-push}, specs.declared.result.Result.Result}
use Rattle.tally_base.specs.{declared.{event.Event.Event, fault.Fault.Fault, header.Mode.{Mode, TheVariants.{T2, T3}}}, FaultCounts.Rose, Events.stops_reserved}
use Rattle.tally_base.{specs.{Events.is_ordered, Tally.floor_after, Limits.{time_limit, wrap_limit}}, proofs.Floors.{floor-lower, floor-push, order-push}}
use Rattle.ptu_definitions.specs.declared.records.{Summary.Summary, Raw.{Raw, TheVariants.{Photon, Marker, Wrap, Reserved}}, KindCounts.KindCounts}
use Rattle.ptu_definitions.specs.{Kept.{Marked, ordered_time}, Streams.{StreamSettings, refusal, refusals, record_refusal, given, events_in}, Kinds.is_reserved}
use Rattle.ptu_definitions.{specs.{Kinds.counts_of, Times.{event_of, amount}, Layouts.{Fits, KindFits}}, proofs.StreamLemmas.{fresh, events_in-push}}
use Rattle.{ptu_definitions.proofs.StreamLemmas.{clear-push, refused-push, given-clear, given-refused, events-push}, abs_time.specs.declared.clock.Clock.Clock}
use Rattle.abs_time.specs.declared.clock.Placed.{Placed, TheVariants.{Event as InOrderPlaced, Wrap as WrapPlaced, Reserved as ReservedPlaced}}
use Rattle.abs_time.specs.{Placing.{HasPlaced, place_answer, mode_of, placed_by, base_of, greatest_by, IsClock, against}, Floors.orders_markers}
use Rattle.abs_time.proofs.ClockLemmas.{IsClock-photon, IsClock-marker, IsClock-wrap, IsClock-reserved, answer-photon, answer-marker, answer-wrap}
use Rattle.{abs_time.proofs.{ClockLemmas.answer-reserved, Floors.moves_by}, record_stream.specs.{Rows.IsPlaced, Walking.{how_of, given_by, summary_in}}}
use Rattle.record_stream.specs.{Walking.{clock_in, IsBehind, KeepsPlace}, declared.{taker.EventTaker.Ghosts, walk.Walk.Walk}, Feeding.{IsAt, GaveOn, BrokeOn}}
use Rattle.record_stream.specs.{Feeding.Fed, OneMore.{with_raw, with_marks, with_block}, Blocks.{on_time, Adds, BrokeAmong, greatest_with, IsOnTime, IsInLine}}
use Rattle.record_stream.{specs.Blocks.{PlacesRise, RisesWithin}, proofs.Placed.{refusal-ok, refusal-err, event_in, marks_of, fresh-plain, skipped-refusal}}
use Rattle.record_stream.proofs.{Placed.{skipped-fresh, IsEarly, comes, refused-early}, Summaries.{so_far-push, so_far-records, so_far-more}}
use Rattle.settle.specs.Passing.{place_after}

-- as many records as words
pub records-is : (how : StreamSettings) (clock : Clock) (sum : Summary) (count : ℕ) (ws : List ℕ)
    → IsAt how clock sum count ws → sum.records ≡ length (map how.meaning ws)
records-is how clock sum count ws h = ap (λ (s : Summary). s.records) h.summary ∙ so_far-records how ws

-- what the clock's answer says of a word
pub word_refused : (how : StreamSettings) (ws : List ℕ) (w n : ℕ) (raw : Raw) (r : Result Placed Fault) → n ≡ length (map how.meaning ws)
    → n < how.policy.records → raw ≡ how.meaning w → (is_reserved raw && stops_reserved how.policy.reserved) ≡ false
    → r ≡ place_answer how.mode (map how.meaning ws) raw → IfErr r (λ fault. refusal how ws w ≡ Some fault)
word_refused how ws w n raw r is room means go answers = search (rules, arith, refusal-err)

pub word_placed : (old new : Walk) (ws : List ℕ) (w n : ℕ) (raw : Raw) (r : Result Placed Fault) → n ≡ length (map (how_of old).meaning ws)
    → n < (how_of old).policy.records → raw ≡ (how_of old).meaning w → (is_reserved raw && stops_reserved (how_of old).policy.reserved) ≡ false
    → r ≡ place_answer (how_of old).mode (map (how_of old).meaning ws) raw → OnOk r (HasPlaced (clock_in new) (map (how_of old).meaning ws ++ raw ∷ [])) → summary_in new ≡ with_raw (summary_in old) raw → IfOk r (IsPlaced old new ws w)
word_placed old new ws w n raw (Err fault) is room means go answers clock sum = tt
word_placed old new ws w n raw (Ok p) is room means go answers clock sum = record {
  refusal = refusal-ok (how_of old) ws w n raw p is room means go (sym answers);
  answer = subst (λ x. place_answer (how_of old).mode (map (how_of old).meaning ws) x ≡ Ok p) means (sym answers);
  clock = subst (λ x. HasPlaced (clock_in new) (map (how_of old).meaning ws ++ x ∷ [])) means clock;
  summary = sum ∙ ap (with_raw (summary_in old)) means;
}

-- a word that is refused
pub refused_fed : {T : Type 0} (g : Ghosts T) (X : Type 0) (how : StreamSettings) (t : T) (ws : List ℕ) (w : ℕ) (fault : Fault)
    → refusals how ws ≡ [] → refusal how ws w ≡ Some fault → Fed g {X = X} how t t ws (ws ++ w ∷ []) (Err fault)
refused_fed g X how t ws w fault clear some = search (rules, arith, refused-push, given-refused, given-clear, append-nil)

-- A word whose record was placed, which is not refused and adds these events.
module _ {old mid : Walk} {ws : List ℕ} {w : ℕ} {p : Placed} (marks : Marked)
    (placed : IsPlaced old mid ws w p) (same_how : how_of mid ≡ how_of old) (h : IsBehind old ws)
    (none : refusal (how_of old) ws w ≡ None) (is : fresh (how_of old) ws ((how_of old).meaning w) ≡ marks) where
  -- where it leads
  pub word_at : (new : Walk) → KeepsPlace mid new → given_by mid ≡ given_by old → summary_in new ≡ with_marks (summary_in mid) marks
      → given_by new ≡ given_by mid + length marks → IsBehind new (ws ++ w ∷ [])
  word_at new place same_given sums counts =
      let how = how_of old in
      subst (λ x. IsAt x (clock_in new) (summary_in new) (given_by new) (ws ++ w ∷ [])) (sym (place.same_how ∙ same_how)) (record {
        clear = clear-push how ws w h.clear none;
        placed = rw (place.same_clock, map-append) placed.clock;
        summary = rw (sums, placed.summary, h.summary, ← is) (sym (so_far-push how ws w));
        counted = counts ∙ rw (events_in-push, length-append, is, same_given, h.counted) refl;
      })

  given-more : given (how_of old) (ws ++ w ∷ []) ≡ given (how_of old) ws ++ marks
  given-more = search (rules, arith, given-clear, clear-push, none, events_in-push, is)

  module _ {T : Type 0} (g : Ghosts T) {t u : T} where
    -- what was given with it
    pub word_gave : ((start : T) (l : Marked) → g.got start t l → g.got start u (l ++ marks)) → g.faults u ≡ g.faults t
        → (record_refusal (how_of old) (ws ++ w ∷ []) ≡ None) × GaveOn g (how_of old) t u ws (ws ++ w ∷ [])
    word_gave got kept = (rw (clear-push (how_of old) ws w h.clear none) refl, record { more = marks; adds = given-more; follows = got; kept = kept })

    -- or broke the taker
    pub word_broke : 0 < length marks → ((start : T) (l : Marked) → g.got start t l → g.broke start u (l ++ marks))
        → Rose (g.faults t) (g.faults u) → BrokeOn g (how_of old) t u ws (ws ++ w ∷ [])
    word_broke some broken rose = record { front = marks; back = []; some = some; adds = rw append-nil given-more; broken = broken; rose = rose }

module _ {T : Type 0} (g : Ghosts T) {old mid : Walk} {ws : List ℕ} {w : ℕ} {p : Placed} (placed : IsPlaced old mid ws w p)
    (same_how : how_of mid ≡ how_of old) (same_given : given_by mid ≡ given_by old) (h : IsBehind old ws) where
  -- a word with no event
  pub skipped_word : (t : T) → event_in p ≡ [] → IsBehind mid (ws ++ w ∷ []) × Fed g {X = Unit {0}} (how_of old) t t ws (ws ++ w ∷ []) (Ok tt)
  skipped_word t no_event =
      let how = how_of old in
      let none = placed.refusal ∙ skipped-refusal how (map how.meaning ws) (how.meaning w) p placed.answer no_event in
      let is = skipped-fresh how ws (how.meaning w) p placed.answer no_event in
      let place : KeepsPlace mid mid = record { same_how = refl; same_records = refl; same_clock = refl; few_given = omega arith } in (
        word_at [] placed same_how h none is mid place same_given refl (sym (add-zero (given_by mid))),
        word_gave [] placed same_how h none is g (λ start l got. rw append-nil got) refl,
      )

-- A block that is given to a taker.

pub ok_of : {X E P : Type 0} (r : Result X E) → is_err r ≡ false → OnOk r P → P
ok_of r is p = search (rules, arith)

pub err_of : {X E P : Type 0} (r : Result X E) → is_err r ≡ true → OnErr r P → P
err_of r is p = search (rules, arith)

pub length-on_time : (es : List Event) → length (on_time es) ≡ length es
length-on_time [] = refl
length-on_time (e ∷ es) = omega (arith, length-on_time es)

-- where the stream stands after a block
pub block_at : {how : StreamSettings} {clock clock' : Clock} {sum sum' : Summary} {count count' n base top : ℕ} {before : List ℕ} {came : List Event} {k : KindCounts}
    (ws : List ℕ) (es : List Event) → IsAt how clock sum count before → Adds how n base top before (before ++ ws) came
    → events_in how (before ++ ws) ≡ events_in how before ++ on_time es
    → mode_of clock' ≡ how.mode → placed_by clock' ≡ n → base_of clock' ≡ base → greatest_by clock' ≡ top
    → sum' ≡ with_block sum k es → k ≡ counts_of (map how.meaning ws) → count' ≡ count + length es
    → IsAt how clock' sum' count' (before ++ ws)
block_at {how = how} {before = before} {k = k} ws es h a delivers mode placed based greatest sums kinds counts = record {
  clear = a.clear;
  placed = rw (mode, placed, based, greatest) a.clock;
  summary = rw (sums, h.summary, kinds) (sym (so_far-more how before ws es delivers));
  counted = omega (arith, counts, h.counted, ap length delivers, length-append (events_in how before) (on_time es), length-on_time es);
}

pub floors_below : (mode : Mode) (low floor top : ℕ) (es : List Event) → low ≤ floor
    → floor_after (orders_markers mode) floor es ≡ top → floor_after (orders_markers mode) low es ≤ top
floors_below mode low floor top es below is = omega (arith, floor-lower (orders_markers mode) low floor es below, is)

module _ {how : StreamSettings} {n base top : ℕ} {before now : List ℕ} {came : List Event} (es : List Event) (clear : refusals how before ≡ [])
    (a : Adds how n base top before now came) (delivers : events_in how now ≡ events_in how before ++ on_time es) where
  given-block : given how now ≡ given how before ++ on_time es
  given-block = given-clear how now a.clear ∙ delivers ∙ ap (λ l. l ++ on_time es) (sym (given-clear how before clear))

  module _ {T : Type 0} (g : Ghosts T) {old new : T} where
    -- what was given of the words
    pub block_fed : ((start : T) (l : Marked) → g.got start old l → g.got start new (l ++ on_time es)) → g.faults new ≡ g.faults old
        → (record_refusal how now ≡ None) × GaveOn g how old new before now
    block_fed got kept = (rw a.clear refl, record { more = on_time es; adds = given-block; follows = got; kept = kept })

    -- or broke the taker
    pub block_broke : BrokeAmong g.got g.broke old new es → Rose (g.faults old) (g.faults new) → BrokeOn g how old new before now
    block_broke b rose = search (rules, arith, length-on_time, given-block, map-append)

-- One word more of which none is refused and no event is late.

-- an event that is not late
against-on_time : (mode : Mode) (top : ℕ) (e : Event) → (IsTrue (is_ordered mode e) → top ≤ e.time) → against mode top e ≡ InOrderPlaced e
against-on_time mode top e on = search (rules, arith)

-- and the greatest time with it
pub greatest-on_time : (mode : Mode) (top : ℕ) (e : Event) → (IsTrue (is_ordered mode e) → top ≤ e.time)
    → max top (ordered_time mode e) ≡ (if is_ordered mode e then e.time else top)
greatest-on_time mode top e on = search (rules, arith)

-- the clock with a record more, of which no event is late
pub clock-push : (mode : Mode) (n base top : ℕ) (records : List Raw) (raw : Raw)
    → IsClock mode n base top records → IsOnTime mode top (event_of (n + 1) base raw)
    → IsClock mode (n + 1) (base + amount raw) (greatest_with mode top (event_of (n + 1) base raw)) (records ++ raw ∷ [])
clock-push mode n base top records (Photon input time dtime) clock on =
    rw (add-zero, ← greatest-on_time mode top _ on) (IsClock-photon mode n base top input time dtime records clock)
clock-push mode n base top records (Marker bits time) clock on =
    rw (add-zero, ← greatest-on_time mode top _ on) (IsClock-marker mode n base top bits time records clock)
clock-push mode n base top records (Wrap ticks) clock on = IsClock-wrap mode n base top ticks records clock
clock-push mode n base top records Reserved clock on = rw add-zero (IsClock-reserved mode n base top records clock)

pub on_time-push : (es more : List Event) (l : Marked) → (l ++ on_time es) ++ on_time more ≡ l ++ on_time (es ++ more)
on_time-push es more l = append_assoc l (on_time es) (on_time more) ∙ ap (λ m. l ++ m) (sym (map-append (λ (e : Event). (e, false)) es more))

module _ (how : StreamSettings) (n base top : ℕ) (before ws : List ℕ) (w : ℕ) (es : List Event)
    (a : Adds how n base top before ws es) (room : n < how.policy.records) where
  adds-placed : (raw : Raw) (p : Placed) → raw ≡ how.meaning w → (is_reserved raw && stops_reserved how.policy.reserved) ≡ false
      → Ok p ≡ place_answer how.mode (map how.meaning ws) raw → IsEarly p → event_in p ≡ event_of (n + 1) base raw
      → marks_of p ≡ on_time (event_of (n + 1) base raw) → IsOnTime how.mode top (event_of (n + 1) base raw)
      → Adds how (n + 1) (base + amount raw) (greatest_with how.mode top (event_of (n + 1) base raw)) before (ws ++ w ∷ []) (es ++ event_of (n + 1) base raw)
  adds-placed raw p means go answers early is marks on =
      let more = event_of (n + 1) base raw in
      let late = rw means at (refused-early how (map how.meaning ws) raw p early (sym answers)) in
      let comes_is = rw means at ((comes how.mode (map how.meaning ws) raw p (sym answers)).0 ∙ is) in
      record {
        clear = clear-push how ws w a.clear (refusal-ok how ws w n raw p a.clock.placed room means go (sym answers) ∙ late);
        clock = rw (map_push how.meaning ws w, ← means) (clock-push how.mode n base top (map how.meaning ws) raw a.clock on);
        came = search (rules, arith, map_push, events-push, append_assoc, comes_is);
        delivers = λ plain. search (rules, arith, events_in-push, fresh-plain, on_time-push);
      }

  -- a word that is not refused and no late event
  pub adds-push : (raw : Raw) → raw ≡ how.meaning w → (is_reserved raw && stops_reserved how.policy.reserved) ≡ false
      → base + amount raw ≤ wrap_limit → IsOnTime how.mode top (event_of (n + 1) base raw)
      → Adds how (n + 1) (base + amount raw) (greatest_with how.mode top (event_of (n + 1) base raw)) before (ws ++ w ∷ []) (es ++ event_of (n + 1) base raw)
  adds-push (Photon input time dtime) means go few on = adds-placed (Photon input time dtime) (InOrderPlaced _) means go
      (ap Ok (sym (against-on_time how.mode top _ on)) ∙ answer-photon how.mode n base top input time dtime (map how.meaning ws) a.clock) tt refl refl on
  adds-push (Marker bits time) means go few on = adds-placed (Marker bits time) (InOrderPlaced _) means go
      (ap Ok (sym (against-on_time how.mode top _ on)) ∙ answer-marker how.mode n base top bits time (map how.meaning ws) a.clock) tt refl refl on
  adds-push (Wrap ticks) means go few on = adds-placed (Wrap ticks) WrapPlaced means go
      (answer-wrap how.mode n base top ticks (map how.meaning ws) (omega (arith, few)) (omega (arith, few)) a.clock) tt refl refl on
  adds-push Reserved means go few on = adds-placed Reserved ReservedPlaced means go (answer-reserved how.mode (map how.meaning ws)) tt refl refl on

-- the events stay in line
pub in_line-event : (mode : Mode) (low top : ℕ) (es : List Event) (e : Event) → IsInLine mode low top es → e.time ≤ time_limit → KindFits mode e.kind
    → (IsTrue (is_ordered mode e) → top ≤ e.time) → IsInLine mode low (if is_ordered mode e then e.time else top) (es ++ e ∷ [])
in_line-event mode low top es e line time kind on =
    let strict = orders_markers mode in
    record {
      in_order = order-push strict low es e line.in_order time (λ moves. rw line.greatest (on (rw (moves_by mode e) at moves)));
      greatest = floor-push strict low es e ∙ rw (moves_by mode e, line.greatest) refl;
      fit = All-push (λ (e : Event). KindFits mode e.kind) es e line.fit kind;
    }

pub in_line-push : (mode : Mode) (low top place base : ℕ) (es : List Event) (raw : Raw) → IsInLine mode low top es → Fits mode raw → base ≤ wrap_limit
    → IsOnTime mode top (event_of place base raw) → IsInLine mode low (greatest_with mode top (event_of place base raw)) (es ++ event_of place base raw)
in_line-push mode low top place base es (Photon input time dtime) line fits few on =
    let h : time < 2 ^ 28 = fits.0 in in_line-event mode low top es _ line (omega (arith, few, h)) fits.1 on
in_line-push T2 low top place base es (Marker bits time) line fits few on =
    let h : time < 2 ^ 28 = fits in in_line-event T2 low top es _ line (omega (arith, few, h)) tt on
in_line-push T3 low top place base es (Marker bits time) line fits few on =
    let h : time < 2 ^ 28 = fits in in_line-event T3 low top es _ line (omega (arith, few, h)) tt on
in_line-push mode low top place base es (Wrap ticks) line fits few on = rw append-nil line
in_line-push mode low top place base es Reserved line fits few on = rw append-nil line

-- and at places that rise
places-event : (low last : ℕ) (es : List Event) (e : Event)
    → PlacesRise low es → place_after low es ≤ last → last < e.place → RisesWithin low e.place (es ++ e ∷ [])
places-event low last [] e rise most next = record { rises = (omega (arith, most, next), tt); last = omega arith }
places-event low last (x ∷ es) e rise most next = search (rules, arith, places-event x.place last es e rise.1 most next)

pub places-push : (low n base : ℕ) (es : List Event) (raw : Raw) → RisesWithin low n es → RisesWithin low (n + 1) (es ++ event_of (n + 1) base raw)
places-push low n base es (Photon input time dtime) within = places-event low n es _ within.rises within.last (omega arith)
places-push low n base es (Marker bits time) within = places-event low n es _ within.rises within.last (omega arith)
places-push low n base es (Wrap ticks) within = rw append-nil (record { rises = within.rises; last = omega (arith, within.last) })
places-push low n base es Reserved within = rw append-nil (record { rises = within.rises; last = omega (arith, within.last) })
