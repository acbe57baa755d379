use Rattle.{std.proofs.{Common.rules, Props.props, Math.Logic.∥∥₁_elim, lemmas.Option.slice_get_read}, tally_base.specs.Settings.correlation_view}
use Rattle.tau_cascade.{proofs.{Shown.shown_ring, Work.{level_within, level_at}}, specs.Correlation.photons_of}
use Rattle.tau_cascade.proofs.cascade.Cascade.level.Goals as goal

pub returns-clause-sizes : goal.returns-clause-sizes
returns-clause-sizes c =
    let t = c.args.self.now in
    let at = slice_get_read t.levels.items t.set.levels c.args.level c.index.result.now (search rules) c.requires c.index.ensures in (
      ∥∥₁_elim t.stands (hlevel props) (λ w. (level_at t.closed (correlation_view t.set) t.levels.items _ w.1.through c.args.level c.index.result.now at).has.cells.counts.count),
      λ r read. ∥∥₁_elim t.stands (hlevel props) (λ w. shown_ring t.closed t.set t.levels.items _ w.1.through c.args.level r read),
    )

pub returns-clause-own : goal.returns-clause-own
returns-clause-own c = λ h is.
    let t = c.args.self.now in
    let read = slice_get_read t.levels.items t.set.levels c.args.level c.index.result.now (search rules) c.requires c.index.ensures in
    (level_within t.closed (correlation_view t.set) t.levels.items (photons_of (correlation_view t.set) h) is.through c.args.level c.index.result.now read).0

pub returns-clause-few : goal.returns-clause-few
returns-clause-few c = λ h is.
    let t = c.args.self.now in
    let read = slice_get_read t.levels.items t.set.levels c.args.level c.index.result.now (search rules) c.requires c.index.ensures in
    rw read (level_within t.closed (correlation_view t.set) t.levels.items (photons_of (correlation_view t.set) h) is.through c.args.level c.index.result.now read).1
