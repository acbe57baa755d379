use Rattle.{std.proofs.{Common.{◌+◌, ◌∙◌, arith, rules}, lemmas.Result.err_from_is_err_and}, ptu_definitions.specs.Layouts.KindFits}
use Rattle.{tally_base.{specs.Columns.{event_at, rows}, proofs.{Floors.order-at, BlockRows.{length-rows, rows-split}}}, record_stream.proofs.Gathering.all-rows}
use Rattle.record_stream.proofs.Gathering.{on_time-rows, ordered-moves, floor-step}
use Rattle.record_stream.proofs.taker.EventTaker.take_block.Goals as goal

pub take-requires-clause-in_time : goal.take-requires-clause-in_time
take-requires-clause-in_time g c =
    let b = c.args.block.now in
    rw c.event.ensures (order-at _ _ (event_at b) b.len c.loop-at.at (search (rules, arith)) c.requires.in_order).0

pub take-requires-clause-kind : goal.take-requires-clause-kind
take-requires-clause-kind g c =
    let b = c.args.block.now in
    rw (c.loop-at.invariant.mode, c.event.ensures) (all-rows (λ e. KindFits (g.Self.EventTaker.mode c.args.self.now) e.kind) (event_at b) b.len c.loop-at.at
    (search (rules, arith)) c.requires.fit)

pub take-requires-clause-in_order : goal.take-requires-clause-in_order
take-requires-clause-in_order g c = λ m.
    let b = c.args.block.now in
    let moves = rw (c.loop-at.invariant.mode, c.event.ensures) at m in
    rw (c.loop-at.invariant.floor, c.event.ensures) ((order-at _ _ (event_at b) b.len c.loop-at.at (search (rules, arith)) c.requires.in_order).1
    (ordered-moves _ (event_at b c.loop-at.at) moves))

pub returns-in_err-take-clause-broken : goal.returns-in_err-take-clause-broken
returns-in_err-take-clause-broken g c =
    let b = c.args.block.now in
    let at' = c.loop-at.at in
    let split = rows-split (event_at b) (at' + 1) b.len (search (rules, arith)) in
    let p = err_from_is_err_and c.from_residual.result c.from_residual.ensures.1 in
    rw p.1 (record {
      front = rows (event_at b) (at' + 1);
      back = split.0;
      some = omega (arith, length-rows (event_at b) (at' + 1));
      are = split.1;
      broken = λ start l got. search (rules, arith, on_time-rows);
    })

pub loop-at-preserved : goal.loop-at-preserved
loop-at-preserved g c =
    let inv = c.loop-at.invariant in
    record {
      taken = omega (arith, c.in_ok-take.ensures.one_more, inv.taken);
      mode = c.in_ok-take.ensures.same_mode ∙ inv.mode;
      floor = search (rules, arith, floor-step);
      follows = λ start l got. search (rules, arith, on_time-rows);
      kept = c.in_ok-take.ensures.cause.kept ∙ inv.kept;
      same = g.met.Self.EventTaker.same_more _ _ _ inv.same c.take.ensures.same;
    }
