use Rattle.{std.proofs.Common.{arith, rules}, photon_pick.proofs.CanBeWritten.{kept-can, written-can, settled-can}}
use Rattle.photon_pick.proofs.laws.kept_photons_can_be_written.Goals as goal

pub returns : goal.returns
returns c = search (rules, arith, kept-can, written-can, settled-can)
