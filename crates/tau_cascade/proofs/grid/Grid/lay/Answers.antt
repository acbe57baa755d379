use Rattle.{std.proofs.Common.{arith, ◌-◌, length}, tau_cascade.proofs.Close.{from_first, over}}
use Rattle.tau_cascade.proofs.grid.Grid.lay.Goals as goal

pub overflow_sub-span-2 : goal.overflow_sub-span-2
overflow_sub-span-2 c =
    let bins = c.args.bins.now in
    omega (arith, over c.args.levels bins (length bins - 1) (omega (arith, c.requires.bins.0)) (from_first c.args.levels bins c.requires.bins.3))
