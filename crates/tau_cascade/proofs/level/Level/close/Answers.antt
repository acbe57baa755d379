use Rattle.std.proofs.{Common.{rules, ◌≡◌, ◌∙◌, ℕ, ◌+◌, ◌-◌, ◌*◌, ◌^◌, ◌<◌, length, map, take, drop, ap, refl, arith}, Math.Logic.∥∥₁_elim}
use Rattle.{std.proofs.{Math.{Nat.mul-le-mul_left, Pow.pow_mono}, lemmas.List.{length-drop, length-map}}, lag_ring.proofs.Rising.all_weaker}
use Rattle.tau_cascade.{specs.{Bins.{raised, merged_all, IsSpaced-prop}, Opens.coming_bins}, proofs.{Paired.all_rising, Spread.{shuts_none, ring_here}}}
use Rattle.tau_cascade.proofs.{Spread.{ring_parts, seam}, level.Level.close.{Goals.After-lower_ring-start, Given.Over}}
use Rattle.tau_cascade.proofs.level.Level.close.Goals as goal

pub lower_ring-start-requires-clause-fits : goal.lower_ring-start-requires-clause-fits
lower_ring-start-requires-clause-fits g c =
    λ up. all_weaker (λ e. e.index * 2 ^ c.args.closing.levels < 2 ^ 64) (λ e. e.index * 2 ^ c.merge_many-shut.result.levels < 2 ^ 64)
    (λ e fits. omega (arith, fits, mul-le-mul_left e.index (pow_mono {i = c.merge_many-shut.result.levels} {j = c.args.closing.levels} (omega (arith, c.merge_many-shut.ensures.same))))) c.args.self.now.ring.entries (c.requires.room.1 (omega (arith, up, c.merge_many-shut.ensures.same)))

-- the bins of the list that is paired
abbrev bins : (g : Over) (c : After-lower_ring-start g) → drop (c.merge_many-shut.result.from - c.lower_ring-start.result) (map (raised c.merge_many-shut.result.levels)
    (take (c.merge_many-shut.result.from + c.merge_many-shut.result.count - c.lower_ring-start.result) (drop c.lower_ring-start.result c.lower_ring-start.new.list)))
    ≡ coming_bins c.merge_many-shut.result c.merge_many-shut.new.list
bins g c = (ring_parts c.merge_many-shut.result.count c.lower_ring-start.ensures).1

abbrev merged : (g : Over) (c : After-lower_ring-start g) → merged_all (drop (c.merge_many-shut.result.from - c.lower_ring-start.result) (map (raised c.merge_many-shut.result.levels)
    (take (c.merge_many-shut.result.from + c.merge_many-shut.result.count - c.lower_ring-start.result) (drop c.lower_ring-start.result c.lower_ring-start.new.list))))
    ≡ merged_all (coming_bins c.args.closing c.args.list.now)
merged g c = ap merged_all (bins g c) ∙ c.merge_many-shut.ensures.bins.merged

pub invariant_of-bins : goal.invariant_of-bins
invariant_of-bins g c =
    let count : ℕ = c.merge_many-shut.result.count in
    let put = c.lower_ring-start.ensures in
    record {
      within = search (rules, arith);
      up = omega (arith, c.merge_many-shut.ensures.same, c.requires.comes.0);
      sorted = rw (ring_here count put) (∥∥₁_elim c.requires.stands (IsSpaced-prop 0 _) (λ w. c.merge_many-shut.ensures.bins.sorted c.args.self.now.ring.entries c.requires.bins.0 (all_rising _ _ _ refl _ _ _ _ _ w.2)));
      spaced = λ far.
          let apart = c.apart_all-apart.ensures far in
          seam _ _ c.lower_ring-start.result c.merge_many-shut.result.from count c.lower_ring-start.new.list apart.0
          (omega (arith, put.place)) (omega (arith, c.merge_many-shut.ensures.comes)) apart.1
          (rw put.behind (c.merge_many-shut.ensures.comes.0.spaced (omega (arith, apart.0, far))));
    }

pub shut-requires-clause-ring : goal.shut-requires-clause-ring
shut-requires-clause-ring g c = (ring_parts c.merge_many-shut.result.count c.lower_ring-start.ensures).0

pub shut-requires-clause-grid : goal.shut-requires-clause-grid
shut-requires-clause-grid g c = (rw (bins g (goal.at.shut-requires-clause-grid g c).After-lower_ring-start) c.merge_many-shut.ensures.grid, c.requires.bins.1)

pub shut-requires-clause-stands : goal.shut-requires-clause-stands
shut-requires-clause-stands g c = rw (merged g (goal.at.shut-requires-clause-stands g c).After-lower_ring-start) c.requires.stands

pub shut-requires-clause-few : goal.shut-requires-clause-few
shut-requires-clause-few g c =
    let at' = (goal.at.shut-requires-clause-few g c).After-lower_ring-start in
    let slice = take (c.merge_many-shut.result.from + c.merge_many-shut.result.count - c.lower_ring-start.result) (drop c.lower_ring-start.result c.lower_ring-start.new.list) in
    let size : length slice - (c.merge_many-shut.result.from - c.lower_ring-start.result) ≡ length (coming_bins c.merge_many-shut.result c.merge_many-shut.new.list) =
    omega (arith, ap length (bins g at'), length-drop (c.merge_many-shut.result.from - c.lower_ring-start.result) (map (raised c.merge_many-shut.result.levels) slice), length-map slice (raised c.merge_many-shut.result.levels)) in
    rw (merged g at', size) c.merge_many-shut.ensures.few

pub returns-clause-shuts : goal.returns-clause-shuts
returns-clause-shuts g c = rw (← merged g (goal.at.returns-clause-shuts g c).After-lower_ring-start) c.shut.ensures.shuts

pub returns-clause-goes : goal.returns-clause-goes
returns-clause-goes g c =
    let shut = c.merge_many-shut.ensures in
    let behind = c.lower_ring-start.ensures.behind in
    let up : c.merge_many-shut.result.levels + 1 - 1 ≡ c.merge_many-shut.result.levels = omega arith in
    record {
      come = record {
        bins = record {
          places = omega (arith, shut.comes.0.places, shut.same.1);
          up = omega (arith, shut.same, c.requires.comes.0);
          spaced = rw behind shut.comes.0.spaced;
          nearer = rw behind shut.comes.0.nearer;
        };
        grid = record { up = λ some. omega arith; grid = rw (c.shut.ensures.others.0, up, behind) shut.grid };
        long = search (rules, arith);
      };
      some = omega arith;
      up = omega (arith, shut.same.1);
      spent = c.shut.ensures.others.1;
    }

pub returns-clause-alike : goal.returns-clause-alike
returns-clause-alike g c =
    let up : c.merge_many-shut.result.levels + 1 - 1 ≡ c.merge_many-shut.result.levels = omega arith in
    rw (up, c.lower_ring-start.ensures.behind) c.merge_many-shut.ensures.bins.come

pub returns-then-closing-eq0-clause-shuts : goal.returns-then-closing-eq0-clause-shuts
returns-then-closing-eq0-clause-shuts g c = rw c.if-closing-eq0.true (shuts_none _ _ _)

pub returns-then-closing-eq0-clause-goes : goal.returns-then-closing-eq0-clause-goes
returns-then-closing-eq0-clause-goes g c = search (rules, arith)
