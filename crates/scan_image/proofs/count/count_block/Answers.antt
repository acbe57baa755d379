use Rattle.std.proofs.Common.{◌≡◌, ◌∙◌, ◌<◌, ◌≤◌, ◌%◌, [], ◌∷◌, ◌++◌, true, false, List, ap, subst, rules, arith, append_assoc, nat_lt, if◌then◌else◌, ℕ, refl}
use Rattle.{std.proofs.lemmas.{Bool.Decides.nat_tests, Grind.common_steps}, tally_base.specs.declared.event.EventKind.TheVariants.{Photon, Marker}}
use Rattle.tally_base.specs.{declared.event.Event.Event, Settings.image_view, Columns.{item, event_at, rows, code_at, dtime_at, time_at}, Tally.floor_after}
use Rattle.tally_base.{specs.Tally.InOrder, proofs.{BlockRows.{length-rows, more_rows, rows-split}, Floors.{floor-more, floor-append, order-at, order-parts}}}
use Rattle.scan_image.{specs.{Lines.{Saw, line_start}, Places.{Mark, mark}, Behind.IsBehind}, proofs.Counts.marker_step}
use Rattle.scan_image.proofs.count.count_block.Goals as goal

-- the time so far only rises
rises : (floor : ℕ) (es : List Event) → InOrder true floor es → floor ≤ floor_after true floor es
rises floor [] all = omega arith
rises floor (e ∷ es) all = let h : floor ≤ e.time = all.1 refl in omega (arith, h, rises e.time es all.2)

floor-rises : (floor : ℕ) (f : ℕ → Event) (n i : ℕ) → i ≤ n → InOrder true floor (rows f n)
    → floor_after true floor (rows f i) ≤ floor_after true floor (rows f n)
floor-rises floor f n i low all =
    let split = rows-split f i n low in
    rw (split.1, floor-append) (rises _ split.0 (order-parts true floor (rows f i) split.0 (rw split.1 at all)).1)

-- and is at most that of each event to come
floor-below : (floor : ℕ) (f : ℕ → Event) (n i j : ℕ) → i ≤ j → j < n → InOrder true floor (rows f n) → floor_after true floor (rows f i) ≤ (f j).time
floor-below floor f n i j low lt all =
    let split = rows-split f j n (omega (arith, lt)) in
    let next : floor_after true floor (rows f j) ≤ (f j).time = (order-at true floor f n j lt all).1 refl in
    omega (arith, next, floor-rises floor f j i low (order-parts true floor (rows f j) split.0 (rw split.1 at all)).0)

pub count_run-at-requires-clause-places : goal.count_run-at-requires-clause-places
count_run-at-requires-clause-places g c = (
  c.requires.sorted,
  c.runs.invariant.within,
  λ i from lt.
      let b = c.args.block.now in
      let low = line_start c.args.lines.now in
      omega (arith, c.runs.invariant.before, floor-below low (event_at b) b.len c.runs.from i from lt c.requires.in_order),
)

pub runs-preserved : goal.runs-preserved
runs-preserved g c =
    let inv = c.runs.invariant in
    let run = c.count_run-at.ensures in
    let b = c.args.block.now in
    let set = image_view (g.P.Pixels.image c.args.pixels.now) in
    let over = g.P.Pixels.over c.args.pixels.now c.count_run-at.new.counts in
    let low = line_start c.args.lines.now in
    let at = c.count_run-at.result in
    let code = code_at b at in
    let time = time_at b at in
    let within : at < b.len = search (rules, arith) in
    let marker : nat_lt code 256 ≡ false = grind (arith, nat_tests, run.runs.stops.2 within) in
    let kind : (item b at).0.kind ≡ Marker (code % 256) = ap (λ t. if t then Photon code (dtime_at b at) else Marker (code % 256)) marker in
    let lines' = c.marker.new.self in
    let saw : (ms : List Mark) → Saw c.runs.lines ms → Saw lines' (ms ++ mark (code % 256) time ∷ []) =
    λ ms is. rw (c.time.ensures, c.code.ensures) at (c.marker.ensures.follows ms is) in
    let moved = floor-more true low (event_at b) at in
    let in_time : line_start c.runs.lines ≤ time =
    omega (arith, inv.before, floor-below low (event_at b) b.len c.runs.from at run.runs.stops.0 within c.requires.in_order) in
    record {
      counted = λ h is. rw (more_rows (item b) at, ← append_assoc)
          (marker_step over set c.runs.lines lines' (h ++ rows (item b) at) (item b at) (code % 256) kind saw (run.follows h (inv.counted h is)));
      fit = run.runs.fit;
      within = omega (arith, within);
      few = omega (arith, inv.few, run.runs.few);
      of_set = c.marker.ensures.same_image ∙ inv.of_set;
      few_markers = omega (arith, inv.few_markers, c.marker.ensures.one_more, run.runs.stops.0);
      before = rw moved (omega (arith, c.marker.ensures.begun, c.time.ensures, in_time));
    }

pub returns-then-at-len-clause-follows : goal.returns-then-at-len-clause-follows
returns-then-at-len-clause-follows g c = λ h is.
    let p = g.P.Pixels in
    let b = c.args.block.now in
    let run = c.count_run-at in
    let len : c.min-len.result ≡ b.len = search (rules, arith) in
    let end : run.result ≡ b.len = omega (arith, len, run.ensures.runs.stops.1, c.if-at-len.true) in
    subst (λ n. IsBehind (p.over c.args.pixels.now run.new.counts) (image_view (p.image c.args.pixels.now)) c.runs.lines (h ++ rows (item b) n)) end
    (run.ensures.follows h (c.runs.invariant.counted h is))

pub returns-then-at-len-clause-lines : goal.returns-then-at-len-clause-lines
returns-then-at-len-clause-lines g c = grind (arith, common_steps, length-rows, floor-rises)
