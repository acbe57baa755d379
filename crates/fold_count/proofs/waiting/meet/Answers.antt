use Rattle.{std.proofs.Common.{◌<◌, rules, arith}, fold_count.proofs.Nested.{join, partly_step}}
use Rattle.fold_count.proofs.waiting.meet.Goals as goal

pub back-preserved : goal.back-preserved
back-preserved c =
    let bins = c.args.ring.now.entries in
    let groups = c.args.groups in
    let e = c.visit-bin.result in
    let some : 0 < c.back.at = search (rules, arith) in
    let at = rw c.back.invariant.entries at c.visit-bin.ensures.entry in
    let put = c.set_b.ensures.set e c.visit-bin.ensures.entry in
    search (rules, arith, join, partly_step)
