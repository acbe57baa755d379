use Rattle.ptu_definitions.proofs.Firsts.{unrefused-none, unrefused-before}
use Rattle.ptu_definitions.proofs.laws.the_words_before_a_refusal.Goals as goal

pub returns : goal.returns
returns c = record { before = unrefused-before; all = unrefused-none }
