use Rattle.{std.proofs.{Common.{rules, length, take, drop, ◌+◌, ◌++◌}, Math.Logic.∥∥₁_map}, tally_base.{proofs.Sums.whole_slice, specs.Columns.events_in}}
use Rattle.{tally_base.specs.Tally.History, tau_cascade.{specs.StandsFor.StandsFor, proofs.cascade.CascadeTally.events.{Given.Over, Goals.After-give_block}}}
use Rattle.tau_cascade.proofs.Blocks.{may_give_block, block_counts}
use Rattle.tau_cascade.proofs.cascade.CascadeTally.events.Goals as goal

pub give_block-requires-clause-stands : goal.give_block-requires-clause-stands
give_block-requires-clause-stands g c =
    let t = c.args.self.now in
    rw c.deref_mut.ensures.value (∥∥₁_map t.stands
    (λ w. (w.0, may_give_block t.closed c.requires.open t.set t.levels.items t.taken t.floor w.0 c.args.block.now w.1 c.requires.room c.requires.in_order)))

-- what it stands for then
given : (g : Over) (c : After-give_block g) (h : History) → StandsFor c.args.self.now.closed c.args.self.now.set c.args.self.now.levels.items c.args.self.now.taken c.args.self.now.floor h
    → StandsFor c.args.self.now.closed c.args.self.now.set (take c.args.self.now.levels.len (c.give_block.new.levels ++ drop (length c.give_block.new.levels) c.args.self.now.levels.items)) (c.args.self.now.taken + c.len.result) c.floor_after-self.result (h ++ events_in c.args.block.now)
given g c h is =
    let t = c.args.self.now in
    let b = c.args.block.now in
    rw (whole_slice c.give_block.new.levels t.levels.items t.levels.len (search rules) (search rules), c.floor_after-self.ensures, c.len.ensures.count)
    (block_counts t.closed c.requires.open t.set t.levels.items c.give_block.new.levels t.taken t.floor h b is c.requires.in_order
    (c.give_block.ensures.follows h (rw c.deref_mut.ensures.value (may_give_block t.closed c.requires.open t.set t.levels.items t.taken t.floor h b is c.requires.room c.requires.in_order))))

pub invariant_of-self-clause-stands : goal.invariant_of-self-clause-stands
invariant_of-self-clause-stands g c = ∥∥₁_map c.args.self.now.stands (λ w. (w.0 ++ events_in c.args.block.now, given g (goal.at.invariant_of-self-clause-stands g c).After-give_block w.0 w.1))

pub returns-clause-follows : goal.returns-clause-follows
returns-clause-follows g c = given g (goal.at.returns-clause-follows g c).After-give_block
