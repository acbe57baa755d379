use Rattle.{std.proofs.Common.{rules, arith, ◌<◌, length}, tally_engine.{specs.Give.Closed, proofs.OneByOne.{given_more, left_more}}}
use Rattle.tally_engine.proofs.give.close_all.Goals as goal

pub loop-part-preserved : goal.loop-part-preserved
loop-part-preserved g c =
    let inv = c.loop-part.invariant in
    let i = c.loop-part.part-index in
    let inside : i < length c.loop-part.parts = search (rules, arith) in
    record {
      ended = given_more (Closed g.T.Tally) c.args.parts.now c.loop-part.parts i c.close.new.self c.part-item.result inside inv.ended inv.left (record { keeps = c.close.ensures.keeps; now_closed = c.close.ensures.now_closed; same_taken = c.close.ensures.same_taken; same_floor = c.close.ensures.same_floor; same_settings = c.close.ensures.same_settings });
      left = left_more c.args.parts.now c.loop-part.parts i c.close.new.self inv.left;
    }
