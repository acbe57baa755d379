use Rattle.{std.proofs.Common.{rules, ◌≡◌, ◌+◌, ◌++◌, [], ◌∷◌, take}, tally_engine.proofs.OneByOne.{settings_more, opened_more, take_more}}
use Rattle.tally_engine.proofs.open.open_list.Goals as goal

pub loop-set-preserved : goal.loop-set-preserved
loop-set-preserved g c =
    let k = c.loop-set.set-index in
    let set = c.set-item.result in
    let taken : take (k + 1) c.args.sets.now ≡ take k c.args.sets.now ++ set ∷ [] = take_more c.args.sets.now k set _ (Prim.search rules) c.set-item.is in
    record {
      settings = settings_more g.S.OpensPart.settings (take k c.args.sets.now) _ set _ c.loop-set.parts.items _
          c.in_ok-part.part taken c.in_ok-push.ensures.items c.loop-set.invariant.settings c.in_ok-part.ensures.settings_are;
      opened =
          λ all. opened_more _ c.loop-set.parts.items _ c.in_ok-part.part c.in_ok-push.ensures.items c.in_ok-part.ensures (c.loop-set.invariant.opened all);
    }
