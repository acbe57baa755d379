use Rattle.std.proofs.{Common.{◌≡◌, ◌∙◌, ℕ, ◌+◌, ◌-◌, ◌≤◌, get_or, map, take, drop, ap, arith, rules}, lemmas.List.{take_rest, take-append-drop}}
use Rattle.{std.proofs.lemmas.Bool.Decides.nat_tests, lag_ring.proofs.{Lists.all_back, Rising.all_weaker}, tau_cascade.specs.{Dense.placed, Bins.raised}}
use Rattle.tau_cascade.proofs.{Close.{no_bin, laid-paired, light-raised, placed_upto, from_first, under, over, zeros_at}, laid.sum_part.Goals.then-light}
use Rattle.tau_cascade.proofs.laid.sum_part.Goals.{else-light}
use Rattle.tau_cascade.proofs.laid.sum_part.Goals as goal

pub lay_all-laying-requires-clause-near : goal.lay_all-laying-requires-clause-near
lay_all-laying-requires-clause-near g c = search (rules, arith, from_first, no_bin, over, all_weaker, under)

pub lay_all-laying-requires-clause-zeros : goal.lay_all-laying-requires-clause-zeros
lay_all-laying-requires-clause-zeros g c = (c.requires.room.2, λ i. zeros_at 250 i)

pub sum_laid-requires : goal.sum_laid-requires
sum_laid-requires g c =
    let e = c.lay_all-laying.ensures in
    let list = c.args.bins.list.now in
    let start : ℕ = c.args.bins.start in
    let heaviest : ℕ = c.lay_all-laying.result.heaviest in
    let light = light-raised c.args.bins.levels heaviest list e.all.heaviest in (
      omega (arith, c.requires.room.0, c.args.range.within),
      (
        (
          omega (arith, c.if-light.true),
          rw (take_rest list start)
              (all_back (λ f. (f.a ≤ heaviest) × (f.b ≤ heaviest)) (take start list) (drop start list) (rw (take-append-drop start list) light)),
          e.all.light,
        ),
        (
          record { all = search (rules, arith); first = omega arith; room = λ i. omega (arith, e.near.0 i, e.near.1, c.requires.room.0, c.args.range.within) },
          search (rules, arith),
          search (rules, arith),
        ),
      ),
    )

pub returns-clause-sums : goal.returns-clause-sums
returns-clause-sums g c = λ is p inside. elim c.if-light.branch [
  | then-light w ↦
      let e = c.lay_all-laying.ensures in
      let list = c.args.bins.list.now in
      let start : ℕ = c.args.bins.start in
      let places = c.lay_all-laying.new.places in
      let most : ℕ = c.lay_all-laying.result.place in
      let k : ℕ = p + c.args.range.skipped + 1 in
      let n : ℕ = g.row.N in
      let from : 192 - n - c.args.range.skipped + (n - 1 - p) ≡ 192 - k = omega (arith, inside, c.requires.room.0, c.args.range.within) in
      let pairs = laid-paired (c.args.range.last + 1) _ start (map (raised c.args.bins.levels) list) (placed (drop start list) places) c.args.bins.sorted e.places
      c.lay_all-laying.new.window most c.lay_all-laying.array_long e.near.1 (placed_upto (drop start list) places most e.near.0)
      (e.all.weights (omega (arith, w.if-light.true))) k (omega arith) (omega (arith, inside)) (omega (arith, inside, c.requires.room.0, c.args.range.within)) in
      let sums = (rw (take_rest list start, from) at (w.sum_laid.ensures.sums (n - 1 - p) (omega (arith, inside, c.requires.room.0, c.args.range.within)))) in
      rw w.sums-is (sums ∙ ap (λ v. get_or c.args.sums.now (n - 1 - p) 0 + v) pairs)
  | else-light w ↦ absurd (grind (arith, nat_tests, is, w.if-light.false))
]
