use Rattle.{std.proofs.Common.{arith, rules}, ptu_made.proofs.Behind.held-more}
use Rattle.ptu_made.proofs.unread.Unread.hold.Goals as goal

pub returns-clause-holds : goal.returns-clause-holds
returns-clause-holds c = record { bytes = search (rules, arith, held-more); photons = search rules }
