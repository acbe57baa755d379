use Rattle.{std.proofs.Common.{rules, arith}, tau_cascade.proofs.{Places.sound, Onward.{stands_cut, is_grid}}}
use Rattle.tau_cascade.proofs.grid.Grid.cut.Goals as goal

pub returns : goal.returns
returns c = λ es fs was before here.
    let few = sound _ (search rules) (search rules) c.requires.stands in
    is_grid _ es (stands_cut _ _ _ es fs (omega arith) (omega arith) (omega arith) (omega arith) was before here)
