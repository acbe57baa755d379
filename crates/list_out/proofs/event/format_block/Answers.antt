use Rattle.std.proofs.{Common.{◌≡◌, ◌+◌, ◌-◌, ◌≤◌, ap, min, ◌∙◌, append-nil, rules, arith, sym}, Math.ListN.drop_of_length-le}
use Rattle.{tally_base.specs.Columns.{event_at, gathered}, list_out.proofs.Rows.{lines, one-before, rows-part}}
use Rattle.list_out.proofs.event.format_block.Goals as goal

pub back-init : goal.back-init
back-init c =
    let b = c.args.block.now in
    let from = c.args.from in
    let at = c.min-at.result in
    let part : at - from ≡ min 64 (b.len - from) = search (rules, arith) in
    record {
      few = search (rules, arith);
      from = search (rules, arith);
      room = omega (arith, part);
      inside = omega arith;
      whole = rw (drop_of_length-le c.args.text.now {i = 6144} (omega (arith, c.told-text))) (append-nil _ ∙ ap lines (sym (rows-part (event_at b) from b.len 64 (at - from) c.requires part)));
    }

pub back-preserved : goal.back-preserved
back-preserved c =
    let from = c.args.from in
    let at = c.back.at in
    let inv = c.back.invariant in
    let fewer : at - 1 - from ≡ at - from - 1 = omega arith in
    let there : at - 1 ≡ from + (at - from - 1) = omega (arith, inv.from, c.back-test.true) in
    record {
      few = omega (arith, inv.few);
      from = omega (arith, c.back-test.true);
      room = search (rules, arith);
      inside = search (rules, arith);
      whole = rw fewer (one-before (λ i. event_at c.args.block.now (from + i)) (at - from) c.event.result _ _ _ (omega (arith, c.back-test.true))
          (c.event.ensures ∙ ap (event_at c.args.block.now) there) c.write_event-start.ensures.written inv.whole);
    }
