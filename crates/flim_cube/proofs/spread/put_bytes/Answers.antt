use Rattle.std.proofs.{Common.{arith, rules}, lemmas.{Bool.cases_eq, Nat.{mod-mul-add, row_fits, same_from_place}}}
use Rattle.flim_cube.proofs.spread.put_bytes.Goals as goal

pub loop-i-preserved : goal.loop-i-preserved
loop-i-preserved c = search (rules, arith, cases_eq, same_from_place, mod-mul-add, row_fits)
