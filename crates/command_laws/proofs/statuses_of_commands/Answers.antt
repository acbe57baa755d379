use Rattle.{ptu_cli.proofs.Told.told, command_laws.proofs.Proved.called-status}
use Rattle.command_laws.proofs.statuses_of_commands.Goals as goal

pub returns-clause-lines : goal.returns-clause-lines
returns-clause-lines c = λ request. (told request).sound

pub returns-clause-faults : goal.returns-clause-faults
returns-clause-faults c = called-status
