use Rattle.{std.proofs.Common.{◌≡◌, ◌+◌, ◌/◌, ℕ, arith, rules, length}, tally_base.specs.Settings.coincidence_view, coincidence.specs.Closing.row_pairs}
use Rattle.coincidence.proofs.{Visits.one_fits, LagPairs.range-le, CellRows.{row-inside, row-single, row-more}}
use Rattle.coincidence.proofs.lags.add_row.Goals as goal

pub add_row-requires-clause-sums : goal.add_row-requires-clause-sums
add_row-requires-clause-sums g c = λ q inside.
    let at : ℕ = c.args.from + q in
    let width : at / c.args.set.width ≡ at = search (rules, arith) in
    let cell = rw width at (row-inside at c.args.set.reach c.args.set.width c.args.set.some_width.0 (omega (arith, c.requires.inside, inside))) in
    let single = row-single (coincidence_view c.args.set) at c.args.from c.args.row.now c.if-set-eq1.true in
    search (rules, arith, c.requires.room.fits)

pub add_pairs-requires-clause-sum : goal.add_pairs-requires-clause-sum
add_pairs-requires-clause-sum g c =
    let set = coincidence_view c.args.set in
    let q = c.loop-q.q in
    let cell : ℕ = (c.args.from + q) / c.args.set.width in
    let inside = row-inside (c.args.from + q) c.args.set.reach c.args.set.width c.args.set.some_width.0 (omega (arith, c.requires.inside, c.loop-q-test.true)) in
    let f : ℕ → ℕ = row_pairs set cell c.args.from c.args.row.now in
    one_fits _ _ _ cell (omega (arith, c.loop-q.invariant.cells cell inside, row-more set cell c.args.from q c.from.result c.args.row.now c.from.ensures, range-le f 0 (q + 1) (length c.args.row.now) (omega (arith, c.loop-q-test.true)), c.requires.room.fits cell inside))

pub loop-q-preserved : goal.loop-q-preserved
loop-q-preserved g c =
    let inv = c.loop-q.invariant in
    record {
      cells = λ at inside. omega (arith, inv.cells at inside, c.add_pairs.ensures.cells at (omega (arith, inside, inv.spends.same, c.requires.room.sized)), row-more (coincidence_view c.args.set) at c.args.from c.loop-q.q c.from.result c.args.row.now c.from.ensures);
      spends = record { same = omega (arith, inv.spends.same, c.add_pairs.ensures.spends.same); added = omega (arith, inv.spends.added, c.add_pairs.ensures.spends.added); steps = omega (arith, inv.spends.steps, c.add_pairs.ensures.spends.steps) };
    }

pub returns-then-set-eq1 : goal.returns-then-set-eq1
returns-then-set-eq1 g c = record {
  cells = λ at inside. omega (arith, c.add_row.ensures.cells at (omega (arith, inside, c.requires.room.sized)), row-single (coincidence_view c.args.set) at c.args.from c.args.row.now c.if-set-eq1.true);
  spends = search (rules, arith);
}
