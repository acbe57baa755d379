use Rattle.{std.proofs.Common.{arith, rules}, tally_base.proofs.Sorted.found}
use Rattle.tally_base.proofs.block.Block.has_photon.Goals as goal

pub returns : goal.returns
returns c = search (rules, arith, found)
