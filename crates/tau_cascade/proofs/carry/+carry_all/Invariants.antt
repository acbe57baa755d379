use Rattle.std.proofs.Common.{length}
use Rattle.tau_cascade.proofs.carry.+carry_all.Given as goal

abbrev pub decreases-carry_all : goal.decreases-carry_all
decreases-carry_all g l = length l.levels.now
