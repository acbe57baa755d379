use Rattle.{std.proofs.Common.{arith, rules}, ptu_made.proofs.MadeEvents.{all-made, few-words, unrefused}}
use Rattle.ptu_made.proofs.laws.no_record_is_refused.Goals as goal

pub returns : goal.returns
returns c = search (rules, arith, unrefused, few-words, all-made)
