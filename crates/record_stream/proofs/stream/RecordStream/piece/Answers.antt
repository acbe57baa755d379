use Rattle.std.proofs.{Common.{rules, arith, ◌++◌, ◌∙◌}, lemmas.{Grind.common_steps, Result.{err_from_is_err_and, on_ok_weaker}}}
use Rattle.{ptu_definitions.specs.{Words.{numbers, words_of}, Prefixes.listed}, record_layout.{specs.Counting.begun_in, proofs.Growing.slice-listed}}
use Rattle.record_stream.{specs.Standing.how_of, proofs.{Feeds.{Fed-trans, Fed-more}, Wraps.{cut-words, cut-rest}}}
use Rattle.record_stream.proofs.stream.RecordStream.piece.Goals as goal

pub returns-in_err-words : goal.returns-in_err-words
returns-in_err-words g c =
    let p = err_from_is_err_and c.from_residual.result c.from_residual.ensures.1 in
    rw (p.1, p.2) (record {
      at = λ bytes h. tt;
      fed = λ bytes h.
          let first = slice-listed c.take-first.result.0 c.as_slice.result.now c.as_slice.ensures in
          let fed = rw first at (c.in_err-words.ensures.delivers.fed (words_of bytes) h.1) in
          let whole = cut-words (begun_in c.args.self.now.carried) bytes c.args.piece.now h.0 (listed c.take-first.result.0) _ c.take-first.ensures.words in
          rw whole at (Fed-more _ (Unit {0}) (how_of c.args.self.now) _ _ (words_of bytes) _ (numbers c.take-first.result.1.now) _ fed);
      goes_on = tt;
      stays = record { same_how = c.words.ensures.stays.same_how; same_refused = c.words.ensures.stays.same_refused; later = c.words.ensures.stays.later; same = c.words.ensures.stays.same };
    })

pub returns : goal.returns
returns g c =
    let carried = begun_in c.args.self.now.carried in
    let first = slice-listed c.take-first.result.0 c.as_slice.result.now c.as_slice.ensures in
    let one = c.in_ok-words.ensures in
    record {
      at = λ bytes h.
          let ws = words_of bytes ++ numbers (listed c.take-first.result.0) in
          let stepped = rw first at (one.delivers.at (words_of bytes) h.1) in
          let left = cut-rest carried bytes c.args.piece.now h.0 _ c.take-first.ensures.rest in
          let whole = cut-words carried bytes c.args.piece.now h.0 (listed c.take-first.result.0) c.take-first.result.1.now c.take-first.ensures.words in
          on_ok_weaker c.words-2.result (λ at'. (c.words-2.ensures.carried ∙ c.words.ensures.carried ∙ left, rw whole at at')) (c.words-2.ensures.delivers.at ws stepped);
      fed = λ bytes h.
          let ws = words_of bytes ++ numbers (listed c.take-first.result.0) in
          let stepped = rw first at (one.delivers.at (words_of bytes) h.1) in
          let fed = rw first at (one.delivers.fed (words_of bytes) h.1) in
          let more = rw c.words.ensures.stays.same_how at (c.words-2.ensures.delivers.fed ws stepped) in
          let whole = cut-words carried bytes c.args.piece.now h.0 (listed c.take-first.result.0) _ c.take-first.ensures.words in
          rw whole at (Fed-trans _ (how_of c.args.self.now) _ c.words.new.taker _ (words_of bytes) ws _ c.words-2.result fed.1 more);
      goes_on = first_of (search (rules, arith, on_ok_weaker), grind (arith, common_steps));
      stays = record {
        same_how = c.words-2.ensures.stays.same_how ∙ c.words.ensures.stays.same_how;
        same_refused = c.words-2.ensures.stays.same_refused ∙ c.words.ensures.stays.same_refused;
        later = omega (arith, c.words.ensures.stays.later, c.words-2.ensures.stays.later);
        same = g.met.W.EventTaker.same_more _ _ _ c.words.ensures.stays.same c.words-2.ensures.stays.same;
      };
    }
