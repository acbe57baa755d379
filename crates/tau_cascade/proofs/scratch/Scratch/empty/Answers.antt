use Rattle.tau_cascade.proofs.Close.{zeros_at}
use Rattle.tau_cascade.proofs.scratch.Scratch.empty.Goals as goal

pub invariant_of-result : goal.invariant_of-result
invariant_of-result c = record { empty = λ p inside. zeros_at 8640 p }
