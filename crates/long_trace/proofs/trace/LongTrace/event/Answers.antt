use Rattle.std.proofs.Common.{rules, arith}
use Rattle.long_trace.proofs.trace.LongTrace.event.Goals as goal

pub returns-clause-follows : goal.returns-clause-follows
returns-clause-follows g c =
    let given = c.take-line.ensures.given in
    record {
      same_set = given.same_set;
      same_begun = given.same_begun;
      going = search (rules, arith);
      follows = λ h is. let now = given.follows h is in record { bins = now.bins; before = now.before; taken = now.taken; floor = now.floor };
      one_more = c.take-line.ensures.one_more;
      moved = c.take-line.ensures.moved;
    }
