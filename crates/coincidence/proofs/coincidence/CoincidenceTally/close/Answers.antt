use Rattle.{std.proofs.Math.Logic.∥∥₁_map, tally_base.specs.Settings.coincidence_view, coincidence.{specs.Pairs.photons_of_groups, proofs.Blockwise.may_end}}
use Rattle.coincidence.proofs.Blockwise.{end_counts}
use Rattle.coincidence.proofs.coincidence.CoincidenceTally.close.Goals as goal

pub end-requires : goal.end-requires
end-requires g c = record {
  stands = ∥∥₁_map c.args.self.now.stands (λ w.
      (photons_of_groups (coincidence_view c.args.self.now.set) w.0, may_end _ c.requires.open _ _ _ _ w.0 w.1 c.args.self.now.few));
}

pub invariant_of-self-clause-stands : goal.invariant_of-self-clause-stands
invariant_of-self-clause-stands g c = ∥∥₁_map c.args.self.now.stands (λ w.
    (w.0, end_counts _ _ _ _ _ _ w.0 w.1 (c.end.ensures.follows _ (may_end _ c.requires.open _ _ _ _ w.0 w.1 c.args.self.now.few))))

pub returns-clause-keeps : goal.returns-clause-keeps
returns-clause-keeps g c = λ h is.
    end_counts _ _ _ _ _ _ h is (c.end.ensures.follows _ (may_end _ c.requires.open _ _ _ _ h is c.args.self.now.few))
