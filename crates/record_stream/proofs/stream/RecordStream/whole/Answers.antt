use Rattle.{std.proofs.{Common.{[], refl, sym, inr, ◌∙◌, rules, arith}, lemmas.Result.on_ok_weaker}, record_stream.specs.InBlocks.goes_on-none}
use Rattle.record_stream.proofs.{Steps.{ok_of, err_of}, InBlocks.{gave-whole, broke-end, fed-broke, fed-gave, fed-given, goes_on-last, breaks-last}}
use Rattle.record_stream.proofs.stream.RecordStream.whole.Goals as goal

pub returns-then-is_broken-clause-feeds : goal.returns-then-is_broken-clause-feeds
returns-then-is_broken-clause-feeds g c =
    let s = g.S.EventTaker in
    let is = c.is_broken.ensures.broken c.if-is_broken.true in
    let fed = c.by_type-fed.ensures in
    rw is (record {
      at = λ bytes h. tt;
      fed = λ bytes h. fed-broke s _ (Unit {0}) c.requires.none (λ l broken. broken c.args.blocks.now [] (goes_on-none s _ _)) refl refl (rw is at (fed.fed bytes h));
      goes_on = tt;
      stays = record { same_how = fed.stays.same_how; same_refused = fed.stays.same_refused; later = fed.stays.later; same = fed.stays.same.1 };
    })

pub returns-then-is_err-clause-feeds : goal.returns-then-is_err-clause-feeds
returns-then-is_err-clause-feeds g c =
    let s = g.S.EventTaker in
    let stays = c.by_type-fed.ensures.stays in
    let give = c.give_all.ensures.gives in
    record {
      at = λ bytes h. tt;
      fed = λ bytes h.
          let whole = c.is_broken.ensures.whole c.if-is_broken.false in
          let gave = fed-given _ c.by_type-fed.result whole (c.by_type-fed.ensures.fed bytes h) in
          let failed = sym c.is_err.ensures.value ∙ c.if-is_err.true in
          let rose = err_of c.give_all.result failed give.cause.once in
          inr (refl, broke-end s c.requires.none gave.adds (breaks-last s (gave.follows c.args.blocks.now [] (goes_on-none s _ _)) (err_of c.give_all.result failed give.broken)) (rw gave.kept at rose));
      goes_on = tt;
      stays = record {
        same_how = stays.same_how;
        same_refused = stays.same_refused;
        later = omega (arith, stays.later, give.cause.later);
        same = g.met.S.EventTaker.same_more _ _ _ stays.same.1 give.same;
      };
    }

pub returns-clause-feeds : goal.returns-clause-feeds
returns-clause-feeds g c =
    let s = g.S.EventTaker in
    let fed = c.by_type-fed.ensures in
    let give = c.give_all.ensures.gives in
    let fine = sym c.is_err.ensures.value ∙ c.if-is_err.false in
    let all = ok_of c.give_all.result fine give.gave in
    record {
      at = fed.at;
      fed = λ bytes h.
          let whole = c.is_broken.ensures.whole c.if-is_broken.false in
          fed-gave s _ c.by_type-fed.result whole
          (λ gave. gave-whole s c.requires.none refl gave.adds (goes_on-last s (gave.follows c.args.blocks.now [] (goes_on-none s _ _)) all) (ok_of c.give_all.result fine give.cause.kept ∙ gave.kept))
          (fed.fed bytes h);
      goes_on = on_ok_weaker c.by_type-fed.result (λ on. record {
        follows = record { mode_is = all.same_mode ∙ on.follows.mode_is; few = omega (arith, all.counted, on.follows.few); before = omega (arith, all.moved, on.follows.before) };
        counted = on.counted;
      }) fed.goes_on;
      stays = record {
        same_how = fed.stays.same_how;
        same_refused = fed.stays.same_refused;
        later = omega (arith, fed.stays.later, give.cause.later);
        same = g.met.S.EventTaker.same_more _ _ _ fed.stays.same.1 give.same;
      };
    }
