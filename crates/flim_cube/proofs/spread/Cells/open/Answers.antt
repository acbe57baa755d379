use Rattle.{std.proofs.Common.{rules, arith}, flim_cube.proofs.Bytes.{more_zeros, nothing_there, count_none}}
use Rattle.flim_cube.proofs.spread.Cells.open.Goals as goal

pub invariant_of-result : goal.invariant_of-result
invariant_of-result c = search (rules, arith, more_zeros, nothing_there)

pub returns : goal.returns
returns c = search (rules, arith, count_none, more_zeros, nothing_there)
