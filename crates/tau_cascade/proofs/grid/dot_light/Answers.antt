use Rattle.std.proofs.{Common.{◌≡◌, ◌∙◌, ℕ, ◌+◌, ◌-◌, ◌*◌, ◌<◌, ◌≤◌, List, get_or, take, drop, sum_by, arith, rules}, Props.props, Math.Logic.∥∥₁_elim}
use Rattle.std.{proofs.{Math.Nat.mul-le-mul_right, lemmas.{List.{get_or-take, length-take-le}, Simd.length-zip2}}, specs.List.range_with_len}
use Rattle.{lag_ring.proofs.Sums.part-at, tau_cascade.{specs.Grid.product, proofs.Dots.{range_more, range_few, range_agree, by_lanes, lane}}}
use Rattle.tau_cascade.proofs.grid.dot_light.Goals as goal

-- a row more in the sum of a lane
row_next : (a b : List ℕ) (row q n : ℕ) → q < n → sum_by (λ r. product a b (16 * r + q)) (range_with_len 0 (row + 1))
    ≡ sum_by (λ r. product a b (16 * r + q)) (range_with_len 0 row) + product (take n (drop (16 * row) a)) (take n (drop (16 * row) b)) q
row_next a b row q n inside = search (rules, arith, range_more, part-at)

pub loop-row-preserved : goal.loop-row-preserved
loop-row-preserved c =
    let row : ℕ = c.loop-row.row in
    let n : ℕ = 16 * row + 16 - 16 * row in
    let part = take n (drop (16 * row) c.args.a.now) in
    let other = take n (drop (16 * row) c.args.b.now) in
    let a = length-take-le 16 part (search (rules, arith)) in
    let b = length-take-le 16 other (search (rules, arith)) in
    record {
      same = search (rules, arith, length-zip2, a, b);
      sums = λ q inside.
          let next = row_next c.args.a.now c.args.b.now row q n (omega (arith, inside)) in
          let fits : get_or c.loop-row.sums q 0 + product part other q < 65536 = ∥∥₁_elim c.requires.light (hlevel props) (λ w.
          let few = range_few (λ r. product c.args.a.now c.args.b.now (16 * r + q)) w.0 (row + 1) (λ r. w.2 (16 * r + q)) in
          let all : (row + 1) * w.0 ≤ c.args.rows * w.0 = mul-le-mul_right w.0 (omega (arith, c.loop-row-test.true)) in
          omega (arith, few, all, w.1, c.loop-row.invariant.sums q inside, next)) in
          let here = lane 16 c.loop-row.sums _ _ (c.loop-row.invariant.same, a, b) q _ _ (get_or-take 16 part q 0 inside) (get_or-take 16 other q 0 inside) inside fits in
          omega (arith, here, c.loop-row.invariant.sums q inside, next);
    }

pub returns : goal.returns
returns c =
    let all : c.loop-row.row ≡ c.args.rows = omega (arith, c.loop-row-test.false) in
    c.sum_of.ensures ∙ range_agree _ _ 16 (rw all at c.loop-row.invariant.sums) ∙ by_lanes (product c.args.a.now c.args.b.now) 16 c.args.rows
