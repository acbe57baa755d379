use Rattle.{std.proofs.{Common.{rules, arith}, lemmas.Result.on_err_weaker}, record_stream.proofs.InBlocks.{goes_on-given, breaks-among}}
use Rattle.record_stream.proofs.in_blocks.give_all.Goals as goal

pub returns-clause-gives : goal.returns-clause-gives
returns-clause-gives g c =
    let s = g.S.EventTaker in
    let take = c.take_block-given in
    record {
      gave = search (rules, arith, goes_on-given);
      broken = on_err_weaker take.result (breaks-among s (g.met.S.EventTaker.got_none _)) take.ensures.broken;
      cause = take.ensures.cause;
      same = take.ensures.same;
    }
