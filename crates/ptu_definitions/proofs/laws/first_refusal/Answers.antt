use Rattle.{std.proofs.Common.{arith, rules}, ptu_definitions.proofs.Firsts.{first-refusal, refused-first, none-refused, given-before, given-all}}
use Rattle.ptu_definitions.proofs.StreamLemmas.{refused-more, given-stays}
use Rattle.ptu_definitions.proofs.laws.first_refusal.Goals as goal

pub returns : goal.returns
returns c = search (rules, arith, first-refusal, refused-first, none-refused, given-before, given-all, refused-more, given-stays)
