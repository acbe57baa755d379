use Rattle.std.proofs.Common.{◌≡◌, ◌-◌, ◌<◌, ◌≤◌, ◌/◌, ◌&&◌, length, refl, rules, arith, nat_lt, nat_le, ◌==◌, if◌then◌else◌}
use Rattle.{tally_base.specs.{Settings.trace_view, Columns.time_at}, count_trace.proofs.Blocks.{count-row, bin-row, one_at, one_at_most, early_none, early_one}}
use Rattle.count_trace.proofs.{Blocks.{late_none, late_one}, counting.count_block.Goals.{then-time-own, else-time-own}}
use Rattle.count_trace.proofs.counting.count_block.Goals as goal

pub loop-at-preserved : goal.loop-at-preserved
loop-at-preserved c =
    let inv = c.loop-at.invariant in
    let b = c.args.block.now in
    let set = trace_view c.args.set.now in
    let at = c.loop-at.at in
    let time = time_at b at in
    let more = c.photons_in-more.result in
    let is_more : more ≡ one_at set b at = c.photons_in-more.ensures in
    let is_time : c.time-time.result ≡ time = c.time-time.ensures in
    let one = one_at_most set b at in
    let same : length c.loop-at.cells ≡ set.bins = search rules in
    let before = count-row set (λ time. nat_lt time set.origin) b at in
    let beyond = count-row set (λ time. nat_le set.origin time && nat_le set.bins ((time - set.origin) / set.width)) b at in
    elim c.if-time-own.branch [
      | then-time-own w ↦
          let lt : time < set.origin = rw is_time at w.if-time-own.true in
          rw (w.cells-is, w.bin-is, w.rest-is) (record {
            each = λ n inside. omega
                (arith, inv.each n inside, bin-row set n b at, early_none set.origin time (one_at set b at) ((time - set.origin) / set.width == n) lt);
            early = omega (arith, inv.early, before, early_one set.origin time (one_at set b at) lt, is_more);
            late = omega (arith, inv.late, beyond, early_none set.origin time (one_at set b at) (nat_le set.bins ((time - set.origin) / set.width)) lt);
            few = omega (arith, inv.few, is_more, one);
            edge = inv.edge;
          })
      | else-time-own w ↦
          let le : set.origin ≤ time = rw is_time at w.if-time-own.false in
          let is_bin = rw is_time at w.of-bin.ensures.index in
          let put = w.put.ensures in
          rw (w.cells-is, w.bin-is, w.rest-is) (record {
            each = λ n inside.
                let added : (if w.of-bin.result.index == n then more else 0) ≡ (if (time - set.origin) / set.width == n then one_at set b at else 0) =
                rw (is_bin, is_more) refl in
                let here : n < length c.loop-at.cells = omega (arith, same, inside) in
                omega (arith, put.cells n here, inv.each n inside, bin-row set n b at, late_one set.origin time (one_at set b at) ((time - set.origin) / set.width == n) le, added);
            early = omega (arith, inv.early, before, late_none set.origin time (one_at set b at) le);
            late =
                let added : (if nat_le (length c.loop-at.cells) w.of-bin.result.index then more else 0) ≡
                (if nat_le set.bins ((time - set.origin) / set.width) then one_at set b at else 0) = rw (same, is_bin, is_more) refl in
                omega (arith, put.rest, inv.late, beyond, late_one set.origin time (one_at set b at) (nat_le set.bins ((time - set.origin) / set.width)) le, added);
            few = omega (arith, put.sum, inv.few, is_more, one);
            edge = w.of-bin.ensures.low;
          })
    ]

pub returns-clause-counts : goal.returns-clause-counts
returns-clause-counts c =
    let inv = c.loop-at.invariant in
    let whole : c.loop-at.at ≡ c.args.block.now.len = search (rules, arith) in
    record { each = rw whole at inv.each; before = rw whole at inv.early; beyond = rw whole at inv.late }
