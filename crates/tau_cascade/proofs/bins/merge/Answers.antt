use Rattle.{std.proofs.{Common.{refl, rules, arith}, lemmas.List.{take_more_set, drop_all}}, tau_cascade.proofs.{Close.no_bin, Follows.merge_more}}
use Rattle.tau_cascade.proofs.Follows.{byte_small}
use Rattle.tau_cascade.proofs.bins.merge.Goals as goal

pub loop-at-preserved : goal.loop-at-preserved
loop-at-preserved c =
    let more = merge_more _ c.loop-at.at _ c.loop-at.bins _ no_bin _ (search (rules, arith)) c.loop-at.invariant.bins c.loop-at.invariant.few _ refl in
    search (rules, arith, more, byte_small)

pub returns-clause-bins : goal.returns-clause-bins
returns-clause-bins c = search (rules, arith, take_more_set, drop_all)
