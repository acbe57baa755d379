use Rattle.{std.proofs.Common.{sym, ◌∙◌}, lag_ring.proofs.Rising.{none_before_front, none_at_all}}
use Rattle.lag_ring.proofs.ring.drop_before.Goals as goal

pub returns-then-e-before-clause-kept : goal.returns-then-e-before-clause-kept
returns-then-e-before-clause-kept c = none_before_front _ _ c.args.before (sym c.in-Some.ensures) c.loop-e.invariant.rising c.if-e-before.true ∙ c.loop-e.invariant.same

pub returns-in_default-clause-kept : goal.returns-in_default-clause-kept
returns-in_default-clause-kept c = none_at_all _ c.args.before (sym c.in_default.ensures) ∙ c.loop-e.invariant.same
