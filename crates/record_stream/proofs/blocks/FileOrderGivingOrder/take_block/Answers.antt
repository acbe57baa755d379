use Rattle.std.{proofs.{Common.{◌≡◌, rules, [], false, max, refl, ap, sym, subst, inr, ◌∙◌, unwrap_or, arith}, lemmas.List.length-map}, specs.Int.from_le_bytes}
use Rattle.{std.specs.Int.w32, tally_base.{specs.declared.header.Mode.Mode, proofs.Floors.order-lower}, ptu_definitions.specs.{Words.numbers, Kept.floor_of}}
use Rattle.{abs_time.specs.{Floors.orders_markers, Placing.greatest_by}, record_stream.specs.{Blocks.on_time, Feeding.CanTake, Whole.events_below}}
use Rattle.record_stream.{specs.Walking.{how_of, greatest_of, clock_in}, proofs.{Gathering.{gathers-all, gathers-lead}, Feeds.delivers-both, Steps.ok_of}}
use Rattle.record_stream.proofs.{Steps.{err_of, block_at, block_fed, block_broke, length-on_time}, InBlocks.floor_of-line, WholeBlocks.{few-events, last-event}}
use Rattle.{record_stream.proofs.{WholeBlocks.first-event, Settles.{kept_on, plain-is}}, settle.specs.Standing.last_time}
use Rattle.record_stream.proofs.blocks.FileOrderGivingOrder.take_block.Goals as goal

pub take_columns-requires-clause-can : goal.take_columns-requires-clause-can
take_columns-requires-clause-can g c =
    let walk = c.args.walk.now in
    let lead = c.in-Some.ensures.leads in
    let unit = g.R.RecordLayout.UNIT in
    let columns = c.of.new.columns in
    let es = events_below 512 (clock_in walk) unit columns in
    let line = (gathers-all walk c.args.words.now _ _ es (lead.gathers false)).0 in
    let follows = c.requires.can.ready.follows in
    let few = few-events (clock_in walk) unit columns 512 in
    subst (λ (m : Mode). CanTake g.W.EventTaker m c.args.taker.now es) (sym walk.same_mode) (record {
      mode_is = follows.mode_is;
      room = omega (arith, follows.few, walk.few_given, walk.limit, lead.room, few);
      fit = line.fit;
      in_order = order-lower (orders_markers (how_of walk).mode) _ (greatest_of walk) es (omega (arith, follows.before, plain-is _ (greatest_of walk) (last_time c.args.settle.now) c.requires.can.ready.is_for)) line.in_order;
    })

pub go_on-requires-clause-stands : goal.go_on-requires-clause-stands
go_on-requires-clause-stands g c =
    let lead = c.in-Some.ensures.leads in
    rw (c.unwrap_or-greatest.ensures, c.greatest-low.ensures)
    (gathers-lead _ (lead.gathers false) (omega (arith, c.placed.ensures.value, lead.records)))

pub go_on-requires-clause-limit : goal.go_on-requires-clause-limit
go_on-requires-clause-limit g c = (c.in-Some.ensures.leads.gathers false).limit

pub overflow_add-walk : goal.overflow_add-walk
overflow_add-walk g c = search (rules, arith, few-events)

pub overflow_add-walk-2 : goal.overflow_add-walk-2
overflow_add-walk-2 g c = search (rules, arith, few-events)

pub invariant_of-walk-clause-few_given : goal.invariant_of-walk-clause-few_given
invariant_of-walk-clause-few_given g c = search (rules, arith)

pub returns-then-is_err : goal.returns-then-is_err
returns-then-is_err g c = record {
  delivers = delivers-both g.W.EventTaker (λ before h.
      let walk = c.args.walk.now in
      let lead = c.in-Some.ensures.leads in
      let es = events_below 512 (clock_in walk) g.R.RecordLayout.UNIT c.of.new.columns in
      let adds = (gathers-all walk c.args.words.now _ _ es (lead.gathers false)).1 before h.at in
      let failed = sym c.is_err.ensures.value ∙ c.if-is_err.true in
      let r = c.take_columns.result in
      (tt, inr (refl, block_broke es h.at.clear adds (adds.delivers c.requires.can.ready.is_for) g.W.EventTaker (err_of r failed c.take_columns.ensures.broken) (err_of r failed c.take_columns.ensures.cause.once))));
  goes_on = tt;
  stays = record {
    stays = record { same_how = refl; later = c.take_columns.ensures.cause.later; same = c.take_columns.ensures.same };
    keeps = c.requires.can.ready.keeps;
  };
}

pub returns : goal.returns
returns g c =
    let w = g.W.EventTaker in
    let walk = c.args.walk.now in
    let lead = c.in-Some.ensures.leads in
    let unit = g.R.RecordLayout.UNIT in
    let columns = c.of.new.columns in
    let words = c.args.words.now in
    let es = events_below 512 (clock_in walk) unit columns in
    let all = gathers-all walk words _ _ es (lead.gathers false) in
    let fine = sym c.is_err.ensures.value ∙ c.if-is_err.false in
    let r = c.take_columns.result in
    let given = ok_of r fine c.take_columns.ensures.given in
    let top = c.go_on.ensures.greatest ∙ c.unwrap_or-greatest.ensures ∙ ap (unwrap_or c.in-Some.ahead.greatest) c.greatest-low.ensures in
    record {
      delivers = delivers-both w (λ before h.
          let adds = all.1 before h.at in
          let plain = adds.delivers c.requires.can.ready.is_for in
          let last = last-event (clock_in walk) unit columns ∙ sym lead.in_short.last in
          let first = first-event (clock_in walk) unit columns walk.sums.kept walk.sums.first c.first_time-first.result c.in-Some.ahead.last last c.first_time-first.ensures in (
            record {
              at = block_at (numbers words) es h.at adds plain (c.go_on.ensures.same_mode ∙ walk.same_mode) (omega (arith, c.go_on.ensures.count, c.placed.ensures.value, lead.records))
                  c.go_on.ensures.base top (c.add_block.ensures.value es last first) lead.counts (omega (arith, lead.in_short.events));
              settles = λ some. absurd (some c.requires.can.ready.is_for);
            },
            block_fed es h.at.clear adds plain w given.follows (ok_of r fine c.take_columns.ensures.cause.kept),
          ));
      goes_on =
          let line = all.0 in
          let follows = c.requires.can.ready.follows in
          let taker = c.args.taker.now in
          let mode = (how_of walk).mode in
          let got = given.follows taker [] (g.met.W.EventTaker.got_none taker) in
          let moved : w.floor c.take_columns.new.self ≡ max (w.floor taker) (floor_of mode (on_time es)) = rw follows.mode_is at (g.met.W.EventTaker.floor_is taker _ _ got) in
          let most = sym (floor_of-line mode (greatest_of walk) es line.in_order) ∙ line.greatest in
          record {
            follows = record {
              mode_is = given.same_mode ∙ follows.mode_is;
              few = omega (arith, g.met.W.EventTaker.taken_is taker _ _ got, follows.few, length-on_time es, lead.in_short.events);
              before = omega (arith, moved, most, top, follows.before, plain-is _ (greatest_of walk) (last_time c.args.settle.now) c.requires.can.ready.is_for, plain-is _ (greatest_by c.go_on.new.self) (last_time c.args.settle.now) c.requires.can.ready.is_for);
            };
            counted = omega (arith, c.add_block.ensures.more.records, lead.records, length-map words (from_le_bytes w32));
          };
      stays = search (rules, arith, kept_on);
    }
