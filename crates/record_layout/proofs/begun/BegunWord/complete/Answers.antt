use Rattle.{std.proofs.Common.{arith, rules}, ptu_definitions.proofs.WordsLemmas.numbers-chunks, record_layout.proofs.Growing.only-word}
use Rattle.record_layout.proofs.begun.BegunWord.complete.Goals as goal

pub returns-clause-word : goal.returns-clause-word
returns-clause-word c = search (rules, arith, only-word, numbers-chunks)
