use Rattle.command_laws.proofs.Proved.{exactly-where, exactly-words}
use Rattle.command_laws.proofs.exactly_where.Goals as goal

pub returns-clause-words : goal.returns-clause-words
returns-clause-words c = exactly-words

pub returns-clause-phases : goal.returns-clause-phases
returns-clause-phases c = exactly-where
