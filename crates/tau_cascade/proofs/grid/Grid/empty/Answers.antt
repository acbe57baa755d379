use Rattle.{std.proofs.Common.{rules, arith}, tau_cascade.proofs.Close.zeros_at}
use Rattle.tau_cascade.proofs.grid.Grid.empty.Goals as goal

pub returns : goal.returns
returns c = search (rules, arith, zeros_at 4096)
