use Rattle.{std.proofs.{Common.{map, arith}, Math.Logic.∥∥₁_map}, tau_cascade.specs.Bins.raised}
use Rattle.tau_cascade.proofs.grid.Grid.raise.Goals as goal

pub put_open-requires : goal.put_open-requires
put_open-requires c = record { stands = (∥∥₁_map c.requires.stands.0 (λ w. (map (raised 1) w.0, c.halve.ensures.halves w.0 w.1)), omega arith) }
