use Rattle.std.proofs.{Common.{rules, arith}, lemmas.List.Sums.sum_by-append}
use Rattle.tau_cascade.proofs.level.Level.has_light_ring.Goals as goal

pub returns : goal.returns
returns c = search (rules, arith, sum_by-append)
