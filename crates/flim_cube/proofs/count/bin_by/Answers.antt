use Rattle.std.proofs.{Common.{arith, rules}, lemmas.Nat.le-div}
use Rattle.flim_cube.proofs.count.bin_by.Goals as goal

pub short_quotient-requires : goal.short_quotient-requires
short_quotient-requires c = search (rules, arith, le-div)
