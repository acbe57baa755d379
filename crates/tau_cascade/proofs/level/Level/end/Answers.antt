use Rattle.std.proofs.{Common.{rules, refl, ◌≡◌, ℕ, ◌-◌, List, [], append-nil, length, arith}, Props.props, Math.Logic.{∥∥₁_map, ∥∥₁_elim}}
use Rattle.{std.{proofs.{Math.Seq.take-append_seam, lemmas.List.take-map}, specs.declared.option.Option.Option}, tally_base.specs.Settings.correlation_view}
use Rattle.{lag_ring.specs.declared.ring.Entry.Entry, tau_cascade.{specs.Bins.{onto, stretch, IsSpaced-prop, StandBefore}, proofs.Paired.occupied_all}}
use Rattle.tau_cascade.proofs.{Spread.{onto_few, sorted, here_sorted, shut_all, merged_fit, all_come}, Onward.{off_grid, is_grid}}
use Rattle.tau_cascade.proofs.level.Level.end.Goals as goal

-- the open bin alone in the list
alone : (o : Option Entry) (from : ℕ) (was new : List Entry) → StandBefore 0 168 (onto o []) was new from → stretch from (168 - from) 0 new ≡ onto o []
alone o from was new put = (let size : 168 - from ≡ length (onto o []) = omega (arith, put.place) in rw (← take-map, put.bins, size) (take-append_seam (onto o []) _))

pub lower_open-from-requires-clause-fits : goal.lower_open-from-requires-clause-fits
lower_open-from-requires-clause-fits g c = λ up. absurd (omega arith)

pub close-requires : goal.close-requires
close-requires g c =
    let put = c.lower_open-from.ensures in
    record {
      comes = (
        record {
          bins = record { places = omega (arith, put.place, onto_few c.args.self.now.open); up = omega arith; spaced = λ far. absurd (omega arith); nearer = c.unknown.ensures _ };
          up = omega arith;
          level = c.requires.room.1;
          long = search (rules, arith);
        },
        rw (alone c.args.self.now.open _ _ _ put) (record {
          grid = off_grid _ [] _ (omega (arith, c.requires.room.2.1)) (is_grid _ [] c.requires.room.2.0);
          dense = omega (arith, c.requires.room.2.1);
          sorted = ∥∥₁_elim c.requires.stands (IsSpaced-prop 0 _) (λ w. here_sorted w.2);
          fit = ∥∥₁_elim c.requires.stands (hlevel props) (λ w. merged_fit w.2);
        }),
      );
      room = (
        ∥∥₁_elim c.requires.stands (hlevel props) (λ w. omega (arith, w.2.was.has.ring.keeps.within, w.2.was.has.ring.reach, c.args.set.now.some_lags, put.place, onto_few c.args.self.now.open)),
        λ up. absurd (omega arith),
      );
      bins = rw (alone c.args.self.now.open _ _ _ put) (∥∥₁_elim c.requires.stands (IsSpaced-prop 0 _) (λ w. sorted w.2), λ on. absurd (omega (arith, c.requires.room.2.1)));
      stands = rw (alone c.args.self.now.open _ _ _ put) (∥∥₁_map c.requires.stands (λ w. (w.0, w.1, (rw append-nil at (shut_all w.2)))));
    }

pub returns-clause-follows : goal.returns-clause-follows
returns-clause-follows g c = λ closed open' can.
    let one = alone c.args.self.now.open _ _ _ c.lower_open-from.ensures in
    let view = correlation_view c.args.set.now in
    let may = (rw append-nil at (shut_all can)) in
    let shuts = (rw one at c.close.ensures.shuts) in (
      record {
        opened = (shuts.opened, refl);
        has = record {
          ring = shuts.ring closed open' may;
          cells = shuts.cells closed open' may;
          paired = omega (arith, shuts.paired, can.was.has.paired, occupied_all view c.args.level _ closed open' may.bins);
        };
      },
      (rw one at c.close.ensures.alike) view c.args.level closed open' (rw append-nil at (all_come can)),
    )
