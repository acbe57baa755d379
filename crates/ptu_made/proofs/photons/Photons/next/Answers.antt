use Rattle.{std.proofs.Common.{arith, rules}, ptu_made.proofs.Behind.{states-none, states-some, words_behind-cons}}
use Rattle.ptu_made.proofs.photons.Photons.next.Goals as goal

pub returns-then-self-eq0-clause-words : goal.returns-then-self-eq0-clause-words
returns-then-self-eq0-clause-words c = search (rules, arith, states-none)

pub returns-clause-words : goal.returns-clause-words
returns-clause-words c = search (rules, arith, states-some, words_behind-cons)
