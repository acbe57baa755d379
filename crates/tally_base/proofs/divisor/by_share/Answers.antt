use Rattle.{std.proofs.Common.{rules, arith}, tally_base.proofs.Sums.quotient_is}
use Rattle.tally_base.proofs.divisor.by_share.Goals as goal

pub returns : goal.returns
returns c = search (rules, arith, quotient_is)
