use Rattle.{std.proofs.Common.{◌∙◌, ◌+◌, ap, sum, arith, nat_lt, ◌==◌, ◌&&◌, cond, rules, slice_index}, lag_ring.specs.declared.ring.Entry.Entry}
use Rattle.fold_count.proofs.Bins.{all_before, not_before, room_for_next}
use Rattle.fold_count.proofs.waiting.count_front.Goals as goal

abbrev none : Entry
none = record { index = 0; a = 0; b = 0 }

pub returns-then-bin-before-clause-cells : goal.returns-then-bin-before-clause-cells
returns-then-bin-before-clause-cells c = record {
  same = c.loop-bin.invariant.cells.same;
  each = λ s inside.
      c.loop-bin.invariant.cells.each s inside
      ∙ ap (λ n. slice_index c.args.cells.now s + n)
      (all_before (λ e. cond (nat_lt e.index c.args.before && (e.b == s)) e.a 0) c.args.before c.args.bins.now c.loop-bin.bin-index none (λ e. not_before e.index c.args.before (e.b == s) e.a) c.requires.rising c.loop-bin-test.true c.if-bin-before.true);
}

pub returns-then-bin-before-clause-sum : goal.returns-then-bin-before-clause-sum
returns-then-bin-before-clause-sum c =
    c.loop-bin.invariant.sum
    ∙ ap (λ n. sum c.args.cells.now + n) (all_before (λ e. cond (nat_lt e.index c.args.before) e.a 0) c.args.before c.args.bins.now c.loop-bin.bin-index none (λ e late. search (rules, arith)) c.requires.rising c.loop-bin-test.true c.if-bin-before.true)

pub count_bin-requires-clause-room : goal.count_bin-requires-clause-room
count_bin-requires-clause-room c =
    omega (arith, c.loop-bin.invariant.sum, room_for_next (λ tick. nat_lt tick c.args.before) c.args.bins.now c.loop-bin.bin-index none c.loop-bin-test.true, c.requires.room)
