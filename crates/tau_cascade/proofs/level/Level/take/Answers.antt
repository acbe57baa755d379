use Rattle.std.proofs.{Common.{rules, List, ◌≡◌, ◌*◌, ◌^◌, ◌<◌, ◌≤◌, [], length, map, take, drop, refl, sym, ap, ◌∙◌, arith}, Props.props, Math.Logic.∥∥₁_map}
use Rattle.{std.proofs.{Math.Logic.∥∥₁_elim, lemmas.List.{length-take, length-map}}, lag_ring.{specs.declared.ring.Entry.Entry, proofs.Lists.all_front}}
use Rattle.{lag_ring.proofs.Lists.all_back, tau_cascade.proofs.{Close.no_bin, Onward.{grid_some, off_grid, is_grid}, Few.near_few, Passes.spaced_back}}
use Rattle.tau_cascade.proofs.Spread.{IsPut, here, long, onto_few, stretch_fit, all_here, came_here, front_here, apart_closed, near_closed, upto, here_sorted}
use Rattle.tau_cascade.proofs.Spread.{front_sorted, front_fit, weights_fit, paired_closed, parts, may_close, take_took}
use Rattle.tau_cascade.proofs.level.Level.take.Goals.{After-lower_open-from, After-cut_last-last, Joined-dense, then-dense+then-has_light_ring, else-dense}
use Rattle.tau_cascade.{proofs.level.Level.take.Given.Over, specs.{Bins.{raised, onto, stretch, merged_all, IsCut, IsSpaced-prop}, Opens.coming_bins}}
use Rattle.tau_cascade.specs.Grid.{IsGrid, FewFirsts}
use Rattle.tau_cascade.proofs.level.Level.take.Goals as goal

pub lower_open-from-requires-clause-fits : goal.lower_open-from-requires-clause-fits
lower_open-from-requires-clause-fits g c = λ up. all_back (λ e. e.index * 2 ^ c.args.came.levels < 2 ^ 64) c.args.self.now.ring.entries (onto c.args.self.now.open [])
    (stretch_fit _ _ _ _ _ _ c.args.list.now no_bin c.requires.comes.1 (omega (arith, c.requires.comes.0.bins.places)) (omega arith) c.requires.stands)

-- what stands in the list then
is_put : (g : Over) (c : After-lower_open-from g) → IsPut c.args.came.levels c.args.came.from c.args.came.count c.args.self.now c.args.list.now c.lower_open-from.new.list c.lower_open-from.result
is_put g c = record { some = c.requires.comes.1; inside = search (rules, arith); before = c.lower_open-from.ensures }

pub invariant_of-bins : goal.invariant_of-bins
invariant_of-bins g c =
    let put = is_put g (goal.at.invariant_of-bins g c).After-lower_open-from in
    record {
      within = omega (arith, long put, put.some, put.before.place);
      up = omega (arith, c.requires.comes.0.bins.up);
      sorted = rw (all_here put) (∥∥₁_elim c.requires.stands (IsSpaced-prop 0 _) (λ w. here_sorted w.3));
      spaced = λ some. absurd (omega arith);
    }

pub cut_last-last-requires : goal.cut_last-last-requires
cut_last-last-requires g c =
    let put = is_put g (goal.at.cut_last-last-requires g c).After-lower_open-from in
    record {
      some = search (rules, arith);
      counts = rw (all_here put) (∥∥₁_elim c.requires.stands (hlevel props) (λ w. weights_fit w.3));
    }

pub follow-requires-clause-stood : goal.follow-requires-clause-stood
follow-requires-clause-stood g c = search (rules, arith, came_here, is_put)

pub follow-requires-clause-bins : goal.follow-requires-clause-bins
follow-requires-clause-bins g c =
    let put = is_put g (goal.at.follow-requires-clause-bins g c).After-lower_open-from in
    all_here put ∙ ap (λ es. onto c.args.self.now.open (map (raised c.args.came.levels) es)) (sym (came_here put))

pub clear-requires : goal.clear-requires
clear-requires g c = grid_some _ _ _ refl c.requires.comes.0.grid.grid

-- the bins that are closed, as they stand in the list
abbrev closing : (g : Over) (c : Joined-dense g) → List Entry
closing g c = take c.cut_last-last.result.closed (onto c.args.self.now.open (coming_bins c.args.came c.args.list.now))

-- the grid stands for those, or has none
grid_here : (g : Over) (c : Joined-dense g) → IsGrid c.if-dense.scratch.grid (closing g c) × (0 < c.if-dense.scratch.grid.len → FewFirsts c.args.self.now.ring.entries)
    × (c.if-dense.scratch.grid.len ≤ 8 * length (merged_all (closing g c)))
grid_here g c =
    let put : IsPut c.args.came.levels c.args.came.from c.args.came.count c.args.self.now c.args.list.now c.lower_open-from.new.list c.lower_open-from.result =
    record { some = c.requires.comes.1; inside = search (rules, arith); before = c.lower_open-from.ensures } in
    elim c.if-dense.branch [
      | then-dense+then-has_light_ring w ↦ rw (w.scratch-is, ← all_here put) (w.follow.ensures.grid, λ some. w.has_light_ring.ensures w.if-has_light_ring.true, w.follow.ensures.dense)
      | else-dense w ↦ rw w.scratch-is (off_grid _ [] _ (omega arith) (is_grid _ [] w.clear.ensures.0), λ some. absurd (omega (arith, w.clear.ensures.1)), omega (arith, w.clear.ensures.1))
    ]

module _ (g : Over) (c : After-cut_last-last g) where
  abbrev all : List Entry
  all = onto c.args.self.now.open (coming_bins c.args.came c.args.list.now)

  put : IsPut c.args.came.levels c.args.came.from c.args.came.count c.args.self.now c.args.list.now c.lower_open-from.new.list c.lower_open-from.result
  put = record { some = c.requires.comes.1; inside = search (rules, arith); before = c.lower_open-from.ensures }

  -- the last of them is cut off
  cut : IsCut all c.cut_last-last.result.closed c.cut_last-last.result.bin
  cut = (rw (all_here put) at c.cut_last-last.ensures)

  few : c.cut_last-last.result.closed < length (here put)
  few = omega (arith, c.cut_last-last.ensures.few, length-map (here put) (raised c.args.came.levels))

  front : stretch c.lower_open-from.result c.cut_last-last.result.closed c.args.came.levels c.lower_open-from.new.list ≡ take c.cut_last-last.result.closed all
  front = front_here put _ few

pub close-requires-clause-comes : goal.close-requires-clause-comes
close-requires-clause-comes g c =
    let at' = goal.at.close-requires-clause-comes g c in
    let put' = put g at'.After-cut_last-last in
    let is = cut g at'.After-cut_last-last in
    let few' = few g at'.After-cut_last-last in
    let are = grid_here g at'.Joined-dense in
    let closed = take c.cut_last-last.result.closed (drop c.lower_open-from.result c.lower_open-from.new.list) in (
      record {
        bins = record {
          places = omega (arith, c.requires.comes.0.bins.places, put'.before.place, onto_few c.args.self.now.open, upto put' _ few');
          up = omega (arith, c.requires.comes.0.bins.up);
          spaced = λ far. let apart = c.apart_all-apart.ensures far in apart_closed put' _ few' _ _ apart.0 (c.requires.comes.0.bins.spaced (omega arith)) apart.1;
          nearer = omega (arith, near_closed put' _ few' c.args.came.gaps.usual c.args.came.gaps.nearer c.requires.comes.0.bins.nearer, near_few c.args.came.gaps.usual closed, length-take c.cut_last-last.result.closed (drop c.lower_open-from.result c.lower_open-from.new.list), c.saturating_add-closing.ensures);
        };
        up = omega (arith, c.requires.comes.0.bins.up);
        level = c.requires.comes.2;
        long = search (rules, arith);
      },
      rw (front g at'.After-cut_last-last) (record {
        grid = are.0;
        dense = are.2;
        sorted = spaced_back 0 c.args.self.now.ring.entries _ (∥∥₁_elim c.requires.stands (IsSpaced-prop 0 _) (λ w. front_sorted w.3 is));
        fit = ∥∥₁_elim c.requires.stands (hlevel props) (λ w. front_fit w.3 is);
      }),
    )

pub close-requires-clause-room : goal.close-requires-clause-room
close-requires-clause-room g c =
    let few : length c.args.self.now.ring.entries ≤ c.args.set.now.lags = ∥∥₁_elim c.requires.stands (hlevel props) (λ w. omega (arith, w.3.was.has.ring.keeps.within, w.3.was.has.ring.reach)) in (
      omega (arith, few, c.requires.comes.0.bins.places, c.args.set.now.some_lags, onto_few c.args.self.now.open, c.lower_open-from.ensures.place),
      λ up. all_front (λ e. e.index * 2 ^ c.args.came.levels < 2 ^ 64) c.args.self.now.ring.entries (onto c.args.self.now.open [])
          (stretch_fit _ _ _ _ _ _ c.args.list.now no_bin c.requires.comes.1 (omega (arith, c.requires.comes.0.bins.places)) (omega arith) c.requires.stands),
    )

pub close-requires-clause-bins : goal.close-requires-clause-bins
close-requires-clause-bins g c =
    let at' = goal.at.close-requires-clause-bins g c in
    rw (front g at'.After-cut_last-last) (∥∥₁_elim c.requires.stands (IsSpaced-prop 0 _) (λ w. front_sorted w.3 (cut g at'.After-cut_last-last)), (grid_here g at'.Joined-dense).1)

pub close-requires-clause-stands : goal.close-requires-clause-stands
close-requires-clause-stands g c =
    let at' = (goal.at.close-requires-clause-stands g c).After-cut_last-last in
    rw (front g at') (∥∥₁_map c.requires.stands (λ w. (w.0, (parts w.3 (cut g at')).0, may_close w.3 (cut g at'))))

pub returns-clause-follows : goal.returns-clause-follows
returns-clause-follows g c = λ closed open' xs can.
    let at' = (goal.at.returns-clause-follows g c).After-cut_last-last in
    let is = cut g at' in
    let whole = parts can is in
    let may = may_close can is in
    let shuts = (rw (front g at') at c.close.ensures.shuts) in (
      whole.0,
      whole.1,
      take_took can is _ shuts.opened (record { ring = shuts.ring closed whole.0 may; cells = shuts.cells closed whole.0 may; paired = paired_closed can is _ shuts.paired })
          _ (rw (front g at') at c.close.ensures.alike),
    )
