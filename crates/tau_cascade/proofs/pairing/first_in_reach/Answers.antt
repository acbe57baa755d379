use Rattle.{std.proofs.{Common.{rules, arith}, lemmas.List.{take-map, take-take, length-take-le}}, lag_ring.proofs.Rising.all_weaker}
use Rattle.tau_cascade.{proofs.Passes.spaced_take, specs.Bins.raised}
use Rattle.tau_cascade.proofs.pairing.first_in_reach.Goals as goal

pub first_kept-requires : goal.first_kept-requires
first_kept-requires c = (c.args.bins.up, rw (← take-map (raised c.args.bins.levels) c.args.at c.args.bins.list.now) (spaced_take 0 c.args.at _ c.args.bins.sorted))

pub returns-clause-far : goal.returns-clause-far
returns-clause-far c = search (rules, arith, length-take-le, take-map, take-take, all_weaker)
