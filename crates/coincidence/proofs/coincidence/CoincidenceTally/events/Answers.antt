use Rattle.{std.proofs.{Common.{rules, ◌++◌}, Math.Logic.∥∥₁_map}, tally_base.specs.Columns.events_in, coincidence.proofs.Blockwise.{may_events, events_count}}
use Rattle.coincidence.proofs.coincidence.CoincidenceTally.events.Goals as goal

pub take_block-requires : goal.take_block-requires
take_block-requires g c = record {
  stands = ∥∥₁_map c.args.self.now.stands (λ w. (w.0, may_events _ c.requires.open _ _ _ _ w.0 _ w.1 c.requires.room c.requires.in_order));
}

pub invariant_of-self-clause-stands : goal.invariant_of-self-clause-stands
invariant_of-self-clause-stands g c = ∥∥₁_map c.args.self.now.stands (λ w. (
  w.0 ++ events_in c.args.block.now,
  events_count _ c.requires.open _ _ _ _ _ _ _ w.0 c.args.block.now w.1 c.requires.in_order (search rules) c.floor_after-self.ensures
      (c.take_block.ensures.follows w.0 (may_events _ c.requires.open _ _ _ _ w.0 _ w.1 c.requires.room c.requires.in_order)),
))

pub returns-clause-follows : goal.returns-clause-follows
returns-clause-follows g c = λ h is.
    events_count _ c.requires.open _ _ _ _ _ _ _ h c.args.block.now is c.requires.in_order (search rules) c.floor_after-self.ensures
    (c.take_block.ensures.follows h (may_events _ c.requires.open _ _ _ _ h _ is c.requires.room c.requires.in_order))
