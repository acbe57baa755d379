use Rattle.{std.proofs.{Common.{append-nil, rules, arith}, lemmas.List.length-take, Math.Logic.∥∥₁_map}, tally_base.specs.Settings.coincidence_view}
use Rattle.coincidence.proofs.Picked.{may_gather, gathers_more, gathered_end}
use Rattle.coincidence.proofs.gathering.gather_block.Goals as goal

pub loop-row-init : goal.loop-row-init
loop-row-init c = search (rules, arith, append-nil)

pub put_bin-requires : goal.put_bin-requires
put_bin-requires c = record { room = search (rules, arith, length-take) }

pub join-closed-requires : goal.join-closed-requires
join-closed-requires c = record {
  stands = rw c.bin_in-bin.ensures (∥∥₁_map c.requires.stands
      (λ w. (coincidence_view c.args.given.set, w.0, w.1, _, _, _, may_gather _ _ _ _ _ _ _ c.loop-row.invariant.came c.loop-row-test.true w.0 w.1 w.2 w.3)));
}

pub loop-row-preserved : goal.loop-row-preserved
loop-row-preserved c = record {
  came = gathers_more _ _ _ _ _ _ _ c.loop-row.invariant.came c.loop-row-test.true _ _
      (λ ring cells came xs can. rw c.put_bin.ensures.items (c.join-closed.ensures.follows _ ring cells _ came xs (rw c.bin_in-bin.ensures can)));
  few = omega (arith, c.loop-row.invariant.few, c.put_bin.ensures.few);
}

pub returns-clause-follows : goal.returns-clause-follows
returns-clause-follows c = search (rules, arith, gathered_end)

pub returns-clause-few : goal.returns-clause-few
returns-clause-few c = search (rules, arith, length-take)
