use Rattle.{std.proofs.Common.{arith, rules}, tally_base.proofs.BlockRows.length-rows, record_stream.proofs.Summaries.{first-rows, last-rows}}
use Rattle.record_stream.proofs.settled_blocks.times_of.Goals as goal

pub returns-clause-last : goal.returns-clause-last
returns-clause-last c = search (rules, arith, length-rows, last-rows)

pub returns-clause-first : goal.returns-clause-first
returns-clause-first c = search (rules, arith, length-rows, first-rows)
