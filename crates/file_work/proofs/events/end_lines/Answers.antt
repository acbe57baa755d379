use Rattle.{std.proofs.Common.{arith, rules}, file_work.proofs.Ends.ended-plain, command_work.proofs.RestEnds.not_written}
use Rattle.file_work.proofs.events.end_lines.Goals as goal

pub returns-clause-answer : goal.returns-clause-answer
returns-clause-answer g c = search (rules, arith, ended-plain, not_written)

pub returns-clause-inside : goal.returns-clause-inside
returns-clause-inside g c = c.finish.ensures.unsettled c.requires.open_in.going c.requires.open_in.unsettled
