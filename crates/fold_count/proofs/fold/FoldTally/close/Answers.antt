use Rattle.std.proofs.Common.{arith}
use Rattle.fold_count.proofs.fold.FoldTally.close.Goals as goal

pub count_all-self-requires-clause-room : goal.count_all-self-requires-clause-room
count_all-self-requires-clause-room g c = let t = c.args.self.now in rw c.deref_mut.ensures.value (omega (arith, t.small, t.few))
