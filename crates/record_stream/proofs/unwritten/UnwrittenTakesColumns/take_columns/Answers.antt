use Rattle.{std.proofs.Common.{refl, subst, sym, ap, ◌∙◌, unwrap_or, arith}, tally_base.specs.{declared.header.Mode.Mode, Tally.{floor_after, InOrder}}}
use Rattle.{abs_time.specs.{Floors.orders_markers, Placing.{mode_of, placed_by, base_of}}, record_stream.specs.Whole.events_below}
use Rattle.record_stream.proofs.{Counted.counted-block, WholeBlocks.floor-is}
use Rattle.record_stream.proofs.unwritten.UnwrittenTakesColumns.take_columns.Goals as goal

pub returns-clause-given : goal.returns-clause-given
returns-clause-given g c =
    let self = c.args.self.now in
    let clock = c.args._clock.now in
    let columns = c.args._columns.now in
    let unit = g.R.RecordLayout.UNIT in
    let can = c.requires.can in
    let es = events_below 512 clock unit columns in
    let floor = c.unwrap_or-floor.ensures ∙ ap (λ o. unwrap_or o self.floor) c.requires.ahead.greatest
    ∙ sym (floor-is columns (placed_by clock) (base_of clock) unit (mode_of clock) self.floor 64) ∙ ap (λ (m : Mode). floor_after (orders_markers m) self.floor es) (sym can.mode_is) in
    record {
      follows = λ start l on.
          counted-block start.mode self.mode start.taken self.taken start.floor self.floor l on es _ _ (omega (arith, c.requires.ahead.events)) floor
          (subst (λ (m : Mode). InOrder (orders_markers m) self.floor es) (sym can.mode_is) can.in_order);
      same_mode = refl;
    }
