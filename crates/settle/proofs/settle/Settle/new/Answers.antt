use Rattle.settle.proofs.Steps.{settled-none}
use Rattle.settle.proofs.settle.Settle.new.Goals as goal

pub returns-clause-empty : goal.returns-clause-empty
returns-clause-empty c = settled-none c.args.k _ c.new.ensures
