use Rattle.std.proofs.Common.{◌≡◌, ◌<◌, ◌≤◌, ℕ, true, ◌∷◌, sym, subst, rules, arith, slice_index, ◌+◌, List, [], ◌++◌, ap, refl, ◌∙◌}
use Rattle.{std.proofs.lemmas.Result.err_from_is_err_and, tally_base.specs.{declared.event.Event.Event, Events.is_photon, Columns.{event_at, rows}}}
use Rattle.tally_base.{specs.Tally.{floor_after, InOrder}, proofs.{BlockRows.{more_rows, rows-split}, Floors.{order-at, floor-append, floor-push, order-parts}}}
use Rattle.{ptu_definitions.specs.Layouts.KindFits, record_stream.proofs.Gathering.all-rows, record_write.specs.Picker.{mode_of, last_by}}
use Rattle.photon_pick.{specs.Giving.pen_on, proofs.Gives.{Gave-one, Gave-trans, Stopped-one, Stopped-behind, Stopped-more}}
use Rattle.photon_pick.proofs.giving.give_photons.Goals as goal

-- The greatest time never falls.
floor-least : (low : ℕ) (es : List Event) → InOrder true low es → low ≤ floor_after true low es
floor-least low [] order = omega arith
floor-least low (e ∷ es) order = search (rules, arith, floor-least e.time es order.2)

floor-front : (low : ℕ) (xs ys : List Event) → InOrder true low (xs ++ ys) → floor_after true low xs ≤ floor_after true low (xs ++ ys)
floor-front low xs ys order = search (rules, arith, floor-least, order-parts, floor-append)

pub put-requires : goal.put-requires
put-requires g c =
    let f : ℕ → Event = λ k. event_at c.args.events.now (slice_index c.args.places.now k) in
    let within : c.loop-k.k < c.args.many = search (rules, arith) in
    let can = c.requires.can in
    let fits = all-rows (λ e. KindFits (mode_of c.args.picker.now) e.kind) f c.args.many c.loop-k.k within can.fit in
    let order : floor_after true (last_by c.args.picker.now) (rows f c.loop-k.k) ≤ (f c.loop-k.k).time =
    (order-at true (last_by c.args.picker.now) f c.args.many c.loop-k.k within can.in_order).1 refl in
    record {
      next = rw c.event.ensures (record {
        going = c.loop-k.invariant.going;
        photon = all-rows (λ e. is_photon e ≡ true) f c.args.many c.loop-k.k within can.are_photons;
        fits = subst (λ m. KindFits m (f c.loop-k.k).kind) (sym c.loop-k.invariant.gave.same_mode) fits;
        in_order = omega (arith, order, c.loop-k.invariant.last);
      });
    }

pub returns-in_err-put-clause-stopped : goal.returns-in_err-put-clause-stopped
returns-in_err-put-clause-stopped g c =
    let f : ℕ → Event = λ k. event_at c.args.events.now (slice_index c.args.places.now k) in
    let within : c.loop-k.k + 1 ≤ c.args.many = search (rules, arith) in
    let split = rows-split f (c.loop-k.k + 1) c.args.many within in
    let p = err_from_is_err_and c.from_residual.result c.from_residual.ensures.1 in
    let told = rw c.event.ensures at c.in_err-put.ensures in
    let old = pen_on g.O.Sink c.args.picker.now c.args.out.now c.args.block.now in
    let mid = pen_on g.O.Sink c.loop-k.picker c.loop-k.out c.loop-k.block in
    let new = pen_on g.O.Sink c.put.new.self c.put.new.out c.put.new.block in
    let one = Stopped-one mid new (f c.loop-k.k) _ told.late (λ is. let kept = told.untouched is in (ap g.O.Sink.state kept.0, kept.1)) told.puts told.cause in
    rw (p.1, p.2, split.1, more_rows f c.loop-k.k) (Stopped-more old new _ split.0 _ (Stopped-behind old mid new (rows f c.loop-k.k) c.loop-k.invariant.gave (f c.loop-k.k ∷ []) _ one))

pub returns-in_err-put-clause-last : goal.returns-in_err-put-clause-last
returns-in_err-put-clause-last g c =
    let f : ℕ → Event = λ k. event_at c.args.events.now (slice_index c.args.places.now k) in
    let within : c.loop-k.k ≤ c.args.many = search (rules, arith) in
    let split = rows-split f c.loop-k.k c.args.many within in
    let low = last_by c.args.picker.now in
    let front = floor-front low (rows f c.loop-k.k) split.0 (subst (λ l. InOrder true low l) split.1 c.requires.can.in_order) in
    let all : floor_after true low (rows f c.args.many) ≡ floor_after true low (rows f c.loop-k.k ++ split.0) = ap (floor_after true low) split.1 in
    let same : last_by c.put.new.self ≡ last_by c.loop-k.picker = c.in_err-put.ensures.closes.same_last in
    omega (arith, front, all, same, c.loop-k.invariant.last)

pub loop-k-preserved : goal.loop-k-preserved
loop-k-preserved g c =
    let f : ℕ → Event = λ k. event_at c.args.events.now (slice_index c.args.places.now k) in
    let e = f c.loop-k.k in
    let told = rw c.event.ensures at c.in_ok-put.ensures in
    let old = pen_on g.O.Sink c.args.picker.now c.args.out.now c.args.block.now in
    let mid = pen_on g.O.Sink c.loop-k.picker c.loop-k.out c.loop-k.block in
    let new = pen_on g.O.Sink c.put.new.self c.put.new.out c.put.new.block in
    rw (more_rows f c.loop-k.k) (record {
      gave = Gave-trans old mid new (rows f c.loop-k.k) c.loop-k.invariant.gave (e ∷ []) (Gave-one mid new e _ told.late told.picks told.puts);
      going = told.picks.going;
      last = told.picks.last ∙ sym (floor-push true (last_by c.args.picker.now) (rows f c.loop-k.k) e);
    })
