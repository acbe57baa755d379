use Rattle.std.proofs.lemmas.List.{get_or-replicate}
use Rattle.long_trace.proofs.closed.Closed.new.Goals as goal

pub returns-clause-frequencies : goal.returns-clause-frequencies
returns-clause-frequencies c = λ count inside. get_or-replicate 1024 count 0 0 inside
