use Rattle.{std.proofs.{Common.{rules, arith, ◌+◌, ◌-◌, ◌<◌}, lemmas.Grind.common_steps}, tau_cascade.proofs.{Close.no_bin, Nexts.weight_more}}
use Rattle.tau_cascade.proofs.pairing.sum_one.Goals.{then-lag-from+then-lag-from-2, else-lag-from, else-lag-from-via-then-lag-from+else-lag-from-2}
use Rattle.tau_cascade.proofs.pairing.sum_one.Goals.{else-lag-from-via-else-lag-from}
use Rattle.tau_cascade.proofs.pairing.sum_one.Goals as goal

pub overflow_add-sums : goal.overflow_add-sums
overflow_add-sums c =
    let a = c.args in
    let p = c.saturating_sub-lag.result - a.range.skipped - 1 in
    let k = p + a.range.skipped + 1 in
    let inside : p < a.range.last - a.range.skipped = search (rules, arith) in
    let more = weight_more a.bins.now a.levels c.loop-bin.bin-index no_bin c.loop-bin-test.true k a.index a.weight in
    let fits = c.requires.fits p inside in
    rw (c.from-then-lag-from-2.ensures, c.from-then-lag-from-2-2.ensures, c.from-then-lag-from-2-3.ensures, c.loop-bin.invariant p inside) (grind (arith, common_steps))

pub loop-bin-preserved : goal.loop-bin-preserved
loop-bin-preserved c = λ p inside.
    let more = weight_more c.args.bins.now c.args.levels c.loop-bin.bin-index no_bin c.loop-bin-test.true (p + c.args.range.skipped + 1) c.args.index c.args.weight in
    let was = c.loop-bin.invariant p inside in
    elim c.if-lag-from.branch [
      | then-lag-from+then-lag-from-2 w ↦ rw w.sums-is (grind (arith, common_steps))
      | else-lag-from w ↦ rw w.sums-is (elim w.else-lag-from.branch [
        | else-lag-from-via-then-lag-from+else-lag-from-2 v ↦ grind (arith, common_steps)
        | else-lag-from-via-else-lag-from v ↦ grind (arith, common_steps)
      ])
    ]
