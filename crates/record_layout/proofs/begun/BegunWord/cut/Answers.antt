use Rattle.{std.proofs.Common.{ap, ◌∙◌}, ptu_definitions.{specs.Words.numbers, proofs.WordsLemmas.{numbers-chunks, drop-chunks}}}
use Rattle.record_layout.proofs.begun.BegunWord.cut.Goals as goal

pub returns-clause-words : goal.returns-clause-words
returns-clause-words c = ap numbers c.as_chunks.ensures.front ∙ numbers-chunks c.args.piece.now

pub returns-clause-rest : goal.returns-clause-rest
returns-clause-rest c = c.put_text.ensures.items ∙ rw c.requires (c.as_chunks.ensures.back ∙ drop-chunks c.args.piece.now)
