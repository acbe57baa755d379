use Rattle.{std.proofs.Common.{◌<◌, length, rules, arith}, tally_base.proofs.Sorted.none-put}
use Rattle.tally_base.proofs.block.Block.put.Goals as goal

pub invariant_of-self-clause-markers : goal.invariant_of-self-clause-markers
invariant_of-self-clause-markers g c =
    let b = c.args.self.now in
    let inside : c.args.at < length b.groups = search (rules, arith) in
    none-put b.marks b.groups c.args.at c.args.groups inside (rw c.requires.next b.markers) c.requires.marker
