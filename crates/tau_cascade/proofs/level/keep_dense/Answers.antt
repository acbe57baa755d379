use Rattle.{std.proofs.{Common.{rules, arith}, lemmas.List.length-take-le}, tau_cascade.proofs.Near.fewer}
use Rattle.tau_cascade.proofs.level.keep_dense.Goals as goal

pub slice_bounds-refill-end-2 : goal.slice_bounds-refill-end-2
slice_bounds-refill-end-2 c = search (rules, arith, fewer, length-take-le)

pub slice_bounds-heaviest_of-end-2 : goal.slice_bounds-heaviest_of-end-2
slice_bounds-heaviest_of-end-2 c = search (rules, arith, fewer, length-take-le)
