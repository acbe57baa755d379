use Rattle.{std.proofs.Common.{refl, rules, arith}, record_stream.proofs.{Wraps.refused-bytes, Lasts.{streamed-shown, fed-shown}}}
use Rattle.record_stream.proofs.stream.RecordStream.pass.Goals as goal

pub returns-in-Some : goal.returns-in-Some
returns-in-Some c = record {
  takes = record {
    same_how = refl;
    taken = λ bytes h. rw c.in-Some.is (λ inside. refused-bytes _ bytes c.args.piece.now _ ((rw c.in-Some.is at h) inside));
    limit = search (rules, arith);
  };
  answer = search (rules, arith);
  kept = search (rules, arith);
  refused = search (rules, arith);
  counted = search (rules, arith);
  few = search (rules, arith);
  shown = λ bytes h inside. streamed-shown _ _ _ (refused-bytes _ bytes c.args.piece.now _ ((rw c.in-Some.is at h) inside));
}

pub returns-in-Err : goal.returns-in-Err
returns-in-Err c = record {
  takes = search (rules, arith);
  answer = search (rules, arith);
  kept = search (rules, arith);
  refused = search (rules, arith);
  counted = search (rules, arith);
  few = search (rules, arith);
  shown = λ bytes h. fed-shown _ (Unit {0}) _ _ _ _ _ _ (c.in-Err.ensures.fed bytes (rw c.in_default.is at h));
}
