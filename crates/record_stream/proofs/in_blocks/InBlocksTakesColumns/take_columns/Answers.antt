use Rattle.std.proofs.{Common.{length, length-append, append-nil, [], subst, sym, ap, Ok, Err, OnErr, arith}, lemmas.Result.{on_ok_weaker, on_err_weaker}}
use Rattle.{std.specs.declared.result.Result.Result, tally_base.specs.{declared.header.Mode.Mode, Columns.{event_at, gathered}, Tally.InOrder}}
use Rattle.{tally_base.proofs.BlockRows.length-rows, abs_time.specs.Floors.orders_markers, record_stream.specs.{Blocks.AllFit, InBlocks.floor_with}}
use Rattle.record_stream.{specs.Whole.events_below, proofs.InBlocks.{Fits, goes_on-trans, goes_on-last, goes_on-push, breaks-behind, breaks-last, waits-push}}
use Rattle.record_stream.proofs.in_blocks.InBlocksTakesColumns.take_columns.Goals as goal

pub put_events-requires-clause-room : goal.put_events-requires-clause-room
put_events-requires-clause-room g c = omega (arith, c.args.self.now.room, length-rows (event_at c.args.self.now.block) c.args.self.now.block.len)

pub make_room-requires : goal.make_room-requires
make_room-requires g c =
    let s = g.S.EventTaker in
    let self = c.args.self.now in
    let can = c.requires.can in
    let es = events_below 512 c.args.clock.now g.R.RecordLayout.UNIT c.args.columns.now in
    let fits : Fits s self.taker.now (gathered self.block) es = record {
      order = subst (λ (m : Mode). InOrder (orders_markers m) (floor_with s self.taker.now (gathered self.block)) es) (sym can.mode_is) can.in_order;
      fit = subst (λ (m : Mode). AllFit m es) (sym can.mode_is) can.fit;
      few = can.room;
    } in
    record { waits = (waits-push s self.taker.now self.block c.put_events.new.block es self.waits c.put_events.ensures.more c.put_events.ensures.unsorted fits, omega arith) }

pub returns-clause-given : goal.returns-clause-given
returns-clause-given g c =
    let s = g.S.EventTaker in
    let self = c.args.self.now in
    let can = c.requires.can in
    let es = events_below 512 c.args.clock.now g.R.RecordLayout.UNIT c.args.columns.now in
    let order = subst (λ (m : Mode). InOrder (orders_markers m) (floor_with s self.taker.now (gathered self.block)) es) (sym can.mode_is) can.in_order in
    let push = goes_on-push s self.taker.now (gathered self.block) _ es c.put_events.ensures.more order in
    on_ok_weaker c.make_room.result (λ gave. record {
      follows = λ start l on. goes_on-trans s on (goes_on-last s push gave);
      same_mode = gave.same_mode;
    }) c.make_room.ensures.gives.gave

both-err : {X E : Type 0} (P Q : Type 0) (r : Result X E) → OnErr r P → OnErr r Q → OnErr r (P × Q)
both-err P Q (Ok x) p q = tt
both-err P Q (Err e) p q = (p, q)

pub returns-clause-broken : goal.returns-clause-broken
returns-clause-broken g c =
    let s = g.S.EventTaker in
    let self = c.args.self.now in
    let can = c.requires.can in
    let es = events_below 512 c.args.clock.now g.R.RecordLayout.UNIT c.args.columns.now in
    let order = subst (λ (m : Mode). InOrder (orders_markers m) (floor_with s self.taker.now (gathered self.block)) es) (sym can.mode_is) can.in_order in
    let push = goes_on-push s self.taker.now (gathered self.block) _ es c.put_events.ensures.more order in
    on_err_weaker c.make_room.result (λ broke. record {
      front = es;
      back = [];
      some = omega (arith, broke.1, self.room, ap length c.put_events.ensures.more, length-append (gathered self.block) es);
      are = sym (append-nil es);
      broken = λ start l on. breaks-behind s on (breaks-last s push broke.0);
    }) (both-err _ _ c.make_room.result c.make_room.ensures.gives.broken c.make_room.ensures.crowded)
