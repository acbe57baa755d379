use Rattle.std.{proofs.{Common.{arith, rules}, lemmas.{List.length-map, Result.on_ok_weaker}}, specs.Int.{from_le_bytes, w32}}
use Rattle.record_stream.proofs.stream.RecordStream.words.Goals as goal

pub returns-then-self-eq0-clause-goes_on : goal.returns-then-self-eq0-clause-goes_on
returns-then-self-eq0-clause-goes_on g c =
    let many = length-map c.args.words.now (from_le_bytes w32) in
    on_ok_weaker c.take_words.result (λ on. search (rules, arith, many)) c.take_words.ensures.goes_on

pub returns-else-self-eq0-clause-goes_on : goal.returns-else-self-eq0-clause-goes_on
returns-else-self-eq0-clause-goes_on g c =
    let many = length-map c.args.words.now (from_le_bytes w32) in
    on_ok_weaker c.take_words-else-self-eq0.result (λ on. search (rules, arith, many)) c.take_words-else-self-eq0.ensures.goes_on
