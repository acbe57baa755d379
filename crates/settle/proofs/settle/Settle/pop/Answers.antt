use Rattle.settle.proofs.Steps.{low-pop, rising-pop}
use Rattle.settle.proofs.settle.Settle.pop.Goals as goal

pub invariant_of-self-2-clause-low : goal.invariant_of-self-2-clause-low
invariant_of-self-2-clause-low c =
    low-pop c.args.self.now.waiting.items _ c.in_ok-first.first c.args.self.now.rising c.in_ok-first.ensures.value c.in_ok-first.ensures.items

pub invariant_of-self-2-clause-rising : goal.invariant_of-self-2-clause-rising
invariant_of-self-2-clause-rising c = rising-pop c.args.self.now.waiting.items _ c.args.self.now.rising c.in_ok-first.ensures.items
