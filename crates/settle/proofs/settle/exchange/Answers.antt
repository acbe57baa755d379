use Rattle.{std.proofs.Common.{arith, rules}, ptu_definitions.proofs.SettledLemmas.{insert-rest, rising-tail}}
use Rattle.settle.proofs.settle.exchange.Goals as goal

pub returns-clause-value : goal.returns-clause-value
returns-clause-value c = search (rules, arith, insert-rest)

pub returns-clause-rising : goal.returns-clause-rising
returns-clause-rising c = rising-tail c.args.event c.args.waiting.now.items _ _ c.requires.rising (returns-clause-value c)
