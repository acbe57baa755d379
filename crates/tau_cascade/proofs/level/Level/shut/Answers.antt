use Rattle.std.proofs.{lemmas.{List.{length-drop, length-map}, Grind.common_steps}, Common.{◌≡◌, ◌+◌, ◌-◌, length, map, drop, refl, arith, rules}, Props.props}
use Rattle.{std.proofs.Math.Logic.∥∥₁_elim, tally_base.specs.Settings.correlation_view, tau_cascade.specs.{Bins.{raised, merged_all}, Levels.PairsMore}}
use Rattle.tau_cascade.proofs.{Few.counts_all, Passes.spaced_drop, Paired.all_fit, Near.{Standing, paired_merged, cells_near, keeps_near, dense_near}}
use Rattle.tau_cascade.proofs.{Near.{keeps_stand, dense_stands}, level.Level.shut.{Given.Over, Goals.{in-Some, in-None, After-saturating_sub-before}}}
use Rattle.tau_cascade.proofs.level.Level.shut.Goals as goal

standing : (g : Over) (c : After-saturating_sub-before g) → Standing (correlation_view c.args.set.now) c.args.level c.skipped_lags-skipped.result c.args.self.now.ring c.args.bins.levels c.args.bins.start c.args.bins.list.now c.saturating_sub-before.result
standing g c = search (rules, arith)

pub pair_all-requires-clause-fits : goal.pair_all-requires-clause-fits
pair_all-requires-clause-fits g c = λ p inside.
    rw (c.requires.ring, ← paired_merged (p + c.skipped_lags-skipped.result + 1) (omega arith) c.args.self.now.ring.entries)
    (∥∥₁_elim c.requires.stands (hlevel props) (λ w. all_fit _ _ _ c.skipped_lags-skipped.ensures.skipped _ _ _ _ _ w.2 p inside))

pub keep_dense-self-requires : goal.keep_dense-self-requires
keep_dense-self-requires g c =
    let at = c.place_from.ensures c.in-Some.place c.in-Some.is in
    let here = standing g (goal.at.keep_dense-self-requires g c).After-saturating_sub-before in
    let grid = (rw (← c.pair_all.ensures.grid) at c.requires.grid.0) in
    let kept = dense_stands here _ c.requires.stands c.pair_all.new.scratch.grid c.in-Some.place (grid.on at.0) at.1 in
    record { grid = search (rules, arith); spare = search (rules, arith, at.2, kept.2); rising = kept.0; room = kept.1 }

pub keep-self-requires : goal.keep-self-requires
keep-self-requires g c =
    let kept = keeps_stand (standing g (goal.at.keep-self-requires g c).After-saturating_sub-before) _ c.requires.stands in
    record { list = search (rules, arith); some = grind (arith, common_steps); spare = search (rules, arith); fits = kept.0; rising = kept.1; room = kept.2 }

pub returns-clause-shuts : goal.returns-clause-shuts
returns-clause-shuts g c =
    let here = standing g (goal.at.returns-clause-shuts g c).After-saturating_sub-before in
    let spent = c.pair_all.ensures.spends in
    let grid = (rw (← c.pair_all.ensures.grid) at c.requires.grid.0) in
    let es = drop c.args.bins.start (map (raised c.args.bins.levels) c.args.bins.list.now) in
    let long : length es ≡ length c.args.bins.list.now - c.args.bins.start = omega (arith, length-drop c.args.bins.start (map (raised c.args.bins.levels) c.args.bins.list.now), length-map c.args.bins.list.now (raised c.args.bins.levels)) in
    let all = (rw long at (counts_all c.args.scratch.now.grid es c.requires.grid.0 (spaced_drop 0 c.args.bins.start _ c.args.bins.sorted))) in
    let more : PairsMore c.args.self.now.paired c.pair_all.new.paired (length (merged_all es)) = omega (arith, c.pair_all.ensures.noted, c.requires.few, all) in
    elim c.match-place_from.branch [
      | in-Some w ↦
          let at = c.place_from.ensures w.in-Some.place w.in-Some.is in
          rw w.self-is (record {
            paired = more;
            ring = λ closed xs can. rw w.keep_dense-self.ensures (dense_near here _ closed xs can c.pair_all.new.scratch.grid w.in-Some.place (grid.on at.0) at.1);
            cells = λ closed xs can. cells_near here _ closed xs can c.pair_all.new.cells c.pair_all.ensures.cells spent.0.same spent.0.added spent.1;
            opened = refl;
          })
      | in-None w ↦ rw w.self-is (record {
        paired = more;
        ring = λ closed xs can. rw w.keep-self.ensures (keeps_near here _ closed xs can).1;
        cells = λ closed xs can. cells_near here _ closed xs can c.pair_all.new.cells c.pair_all.ensures.cells spent.0.same spent.0.added spent.1;
        opened = refl;
      })
    ]
