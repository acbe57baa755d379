use Rattle.{std.proofs.{Common.{◌≤◌, ◌+◌, length, rules, arith}, lemmas.List.{length-map, drop_all, take_all}}, tau_cascade.proofs.Close.no_bin}
use Rattle.tau_cascade.proofs.{Nexts.{none_paired, paired_first}, Passes.{paired_between, part_long}}
use Rattle.tau_cascade.proofs.pairing.sum_each.Goals as goal

pub loop-at-init : goal.loop-at-init
loop-at-init c = search (rules, arith, none_paired, length-map)

pub sum_one-requires-clause-fits : goal.sum_one-requires-clause-fits
sum_one-requires-clause-fits c = λ p inside.
    let a = c.args in
    let list = a.bins.list.now in
    let near = c.first_in_reach-near in
    let at = c.loop-at.at in
    let k = p + a.range.skipped + 1 in
    let next = paired_between a.bins.levels list near.result at (length list) no_bin near.ensures.place c.loop-at-test.true (omega arith) a.bins.sorted
    k a.range.last a.bins.start (omega (arith, inside)) c.loop-at.auto.at near.ensures.far in
    let first = paired_first a.bins.levels list near.result at (length list) no_bin near.ensures.place c.loop-at-test.true (omega arith) k in
    grind (arith, length-map, take_all, c.requires p inside, c.loop-at.invariant p inside)

pub loop-at-preserved : goal.loop-at-preserved
loop-at-preserved c = λ p inside.
    let a = c.args in
    let near = c.first_in_reach-near in
    let at = c.loop-at.at in
    let k = p + a.range.skipped + 1 in
    let upto : at + 1 ≤ length a.bins.list.now = omega (arith, c.loop-at-test.true) in
    let next = paired_between a.bins.levels a.bins.list.now near.result at (at + 1) no_bin near.ensures.place (omega arith) upto a.bins.sorted
    k a.range.last a.bins.start (omega (arith, inside)) c.loop-at.auto.at near.ensures.far in
    let first = paired_first a.bins.levels a.bins.list.now near.result at (at + 1) no_bin near.ensures.place (omega arith) upto k in
    grind (arith, drop_all, part_long, c.loop-at.invariant p inside, c.sum_one.ensures p inside)
