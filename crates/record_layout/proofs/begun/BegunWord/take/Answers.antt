use Rattle.{std.proofs.Common.{◌≡◌, ◌-◌, ◌++◌, ◌∙◌, take, length, ap, sym, refl, arith, length-append, rules}, ptu_definitions.specs.Words.rest_of}
use Rattle.{ptu_definitions.proofs.WordsLemmas.{words_of-few, rest_of-few}, record_layout.{specs.Counting.begun_in, proofs.Growing.{none_of, words-completed}}}
use Rattle.record_layout.proofs.Growing.{rest-completed}
use Rattle.record_layout.proofs.begun.BegunWord.take.Goals as goal

pub returns-then-begun-eq0-clause-words : goal.returns-then-begun-eq0-clause-words
returns-then-begun-eq0-clause-words c = rw (none_of (begun_in c.args.self.now) (omega arith)) c.cut.ensures.words

pub returns-then-begun-eq0-clause-rest : goal.returns-then-begun-eq0-clause-rest
returns-then-begun-eq0-clause-rest c = rw (none_of (begun_in c.args.self.now) (omega arith)) c.cut.ensures.rest

pub returns-then-piece-missing-clause-words : goal.returns-then-piece-missing-clause-words
returns-then-piece-missing-clause-words c = search (rules, arith, words_of-few, length-append)

pub returns-then-piece-missing-clause-rest : goal.returns-then-piece-missing-clause-rest
returns-then-piece-missing-clause-rest c = search (rules, arith, rest_of-few, length-append)

pub returns-clause-words : goal.returns-clause-words
returns-clause-words c =
    let begun = begun_in c.args.self.now in
    let piece = c.args.piece.now in
    let n = 4 - c.len-begun.result in
    let front : c.split_at.result.0.now ≡ take n piece = c.split_at.ensures.front in
    let four : length (begun ++ take n piece) ≡ 4 = rw (← front) (omega (arith, length-append begun c.split_at.result.0.now, c.split_at.ensures.front_len)) in
    let word = rw front at c.complete-word.ensures.word in
    let behind = rw c.split_at.ensures.back at c.cut-2.ensures.words in
    rw (words-completed begun piece n four, ← word, ← behind) refl

pub returns-clause-rest : goal.returns-clause-rest
returns-clause-rest c =
    let begun = begun_in c.args.self.now in
    let piece = c.args.piece.now in
    let n = 4 - c.len-begun.result in
    let front : c.split_at.result.0.now ≡ take n piece = c.split_at.ensures.front in
    let four : length (begun ++ take n piece) ≡ 4 = rw (← front) (omega (arith, length-append begun c.split_at.result.0.now, c.split_at.ensures.front_len)) in
    c.cut-2.ensures.rest ∙ ap rest_of c.split_at.ensures.back ∙ sym (rest-completed begun piece n four)
