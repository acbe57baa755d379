use Rattle.{std.proofs.Common.{map, ap, ◌∙◌}, ptu_definitions.{specs.Words.numbers, proofs.WordsLemmas.numbers-chunks}}
use Rattle.lane_decode.proofs.block.decode_block.Goals as goal

pub returns : goal.returns
returns g c =
    let words = ap numbers c.as_chunks.ensures.front ∙ numbers-chunks c.args.words.now in
    c.decode_words.ensures ∙ ap (map g.R.RecordLayout.meaning) words
