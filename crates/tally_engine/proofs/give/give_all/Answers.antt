use Rattle.{std.proofs.Common.{rules, arith, ◌<◌, length}, tally_base.specs.Columns.{gathered, events_in}}
use Rattle.tally_engine.{specs.{contracts.part.PartTally.TheImpl.ghosts, Give.HasTaken}, proofs.OneByOne.{given_more, left_more}}
use Rattle.tally_engine.proofs.give.give_all.Goals as goal

pub loop-part-preserved : goal.loop-part-preserved
loop-part-preserved g c =
    let inv = c.loop-part.invariant in
    let i = c.loop-part.part-index in
    let inside : i < length c.loop-part.parts = search (rules, arith) in
    record {
      given = given_more (HasTaken ghosts (gathered c.args.block.now) (events_in c.args.block.now)) c.args.parts.now c.loop-part.parts i c.events.new.self c.part-item.result inside inv.given inv.left (record { follows = c.events.ensures.follows; still_open = c.events.ensures.still_open; count = c.events.ensures.count; moved = c.events.ensures.moved; same_settings = c.events.ensures.same_settings });
      left = left_more c.args.parts.now c.loop-part.parts i c.events.new.self inv.left;
    }
