use Rattle.std.proofs.Common.{arith}
use Rattle.tau_cascade.proofs.pairing.sum_all.Goals as goal

pub sum_each-requires : goal.sum_each-requires
sum_each-requires c = rw (c.sum_lanes.ensures.none c.if-sum_lanes.false) c.requires.zeros.0

pub returns-clause-sums : goal.returns-clause-sums
returns-clause-sums c =
    let zeros = (rw (← c.sum_lanes.ensures.none c.if-sum_lanes.false) at c.requires.zeros.1) in
    λ p inside. omega (arith, c.sum_each.ensures.sums p inside, zeros p)
