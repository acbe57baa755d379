use Rattle.{std.proofs.{Common.{rules, true, length, take, drop, ◌++◌}, Math.Logic.∥∥₁_map}, tally_base.proofs.Sums.whole_slice}
use Rattle.{tally_base.specs.{Settings.correlation_view, Tally.History}, tau_cascade.specs.{Correlation.photons_of, StandsFor.StandsFor}}
use Rattle.tau_cascade.proofs.{cascade.CascadeTally.close.{Given.Over, Goals.After-end_all}, Blocks.may_end}
use Rattle.tau_cascade.proofs.cascade.CascadeTally.close.Goals as goal

pub end_all-requires-clause-stands : goal.end_all-requires-clause-stands
end_all-requires-clause-stands g c =
    let t = c.args.self.now in
    rw c.deref_mut.ensures.value (∥∥₁_map t.stands (λ w. (
      photons_of (correlation_view t.set) w.0,
      may_end t.closed c.requires.open t.set t.levels.items t.taken t.floor w.0 w.1 t.few,
    )))

-- what it stands for then
ended : (g : Over) (c : After-end_all g) (h : History) → StandsFor c.args.self.now.closed c.args.self.now.set c.args.self.now.levels.items c.args.self.now.taken c.args.self.now.floor h
    → StandsFor true c.args.self.now.set (take c.args.self.now.levels.len (c.end_all.new.levels ++ drop (length c.end_all.new.levels) c.args.self.now.levels.items)) c.args.self.now.taken c.args.self.now.floor h
ended g c h is =
    let t = c.args.self.now in
    rw (whole_slice c.end_all.new.levels t.levels.items t.levels.len (search rules) (search rules)) (record { taken = is.taken; floor = is.floor; through = (c.end_all.ensures.follows (photons_of (correlation_view t.set) h) (rw c.deref_mut.ensures.value (may_end t.closed c.requires.open t.set t.levels.items t.taken t.floor h is t.few))) })

pub invariant_of-self-clause-stands : goal.invariant_of-self-clause-stands
invariant_of-self-clause-stands g c = ∥∥₁_map c.args.self.now.stands (λ w. (w.0, ended g (goal.at.invariant_of-self-clause-stands g c).After-end_all w.0 w.1))

pub returns-clause-keeps : goal.returns-clause-keeps
returns-clause-keeps g c = ended g (goal.at.returns-clause-keeps g c).After-end_all
