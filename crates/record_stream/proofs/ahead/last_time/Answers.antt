use Rattle.std.proofs.{Common.{◌≡◌, ◌+◌, ◌-◌, ◌*◌, Some, true, false, refl, sym, ap, ◌∙◌, arith, slice_index}, lemmas.Bool.{lt-ltb, le-ltb}}
use Rattle.{record_layout.specs.declared.row.Row.Row, lane_decode.specs.InColumns.{row_at, wraps_at, sum_to, time_in}, record_stream.specs.Whole.last_below}
use Rattle.record_stream.proofs.WholeBlocks.{product-more, last-step}
use Rattle.record_stream.proofs.ahead.last_time.Goals as goal

pub overflow_add-result : goal.overflow_add-result
overflow_add-result g c = omega (arith, c.back.invariant.less, c.requires.room)

pub returns-then-row-below : goal.returns-then-row-below
returns-then-row-below g c = λ base is.
    let unit = g.R.RecordLayout.UNIT in
    let columns = c.args.columns.now in
    let at = c.back.at in
    let less = rw c.get-row.ensures at (lt-ltb c.get-row.result.code c.args.below c.if-row-below.true) in
    let next : at - 1 + 1 ≡ at = omega (arith, c.back-test.true) in
    let here : c.get-row.result.time ≡ slice_index columns.times (at - 1) = ap (λ (r : Row). r.time) c.get-row.ensures in
    let sums : c.back.before ≡ base + unit * sum_to (wraps_at columns) at = omega (arith, is, c.back.invariant.before) in
    let time : c.back.before + c.get-row.result.time ≡ time_in base unit columns (at - 1) = rw next (omega (arith, sums, here)) in
    ap Some time ∙ sym (c.back.invariant.same base ∙ last-step c.args.below (λ i. (row_at columns i).code) (time_in base unit columns) at true c.back-test.true less)

pub overflow_sub-before : goal.overflow_sub-before
overflow_sub-before g c =
    let unit = g.R.RecordLayout.UNIT in
    let columns = c.args.columns.now in
    let at = c.back.at in
    let next : at - 1 + 1 ≡ at = omega (arith, c.back-test.true) in
    let here : c.get-row.result.wraps ≡ wraps_at columns (at - 1) = ap (λ (r : Row). r.wraps) c.get-row.ensures in
    let more = rw next at (product-more unit (wraps_at columns) (at - 1)) in
    rw (here, c.UNIT.ensures) (omega (arith, more, c.requires.low, c.back.invariant.before))

pub back-preserved : goal.back-preserved
back-preserved g c =
    let unit = g.R.RecordLayout.UNIT in
    let columns = c.args.columns.now in
    let at = c.back.at in
    let inv = c.back.invariant in
    let next : at - 1 + 1 ≡ at = omega (arith, c.back-test.true) in
    let here : c.get-row.result.wraps ≡ wraps_at columns (at - 1) = ap (λ (r : Row). r.wraps) c.get-row.ensures in
    let more = rw next at (product-more unit (wraps_at columns) (at - 1)) in
    let less = rw c.get-row.ensures at (le-ltb c.get-row.result.code c.args.below c.if-row-below.false) in
    record {
      few = omega (arith, inv.few);
      less = omega (arith, inv.less);
      before = rw (here, c.UNIT.ensures) (omega (arith, more, c.requires.low, inv.before));
      same = λ base. inv.same base ∙ last-step c.args.below (λ i. (row_at columns i).code) (time_in base unit columns) at false c.back-test.true less;
    }

pub returns : goal.returns
unfolding last_below
returns g c = λ base is.
    let none : c.back.at ≡ 0 = omega (arith, c.back-test.false) in
    sym (c.back.invariant.same base ∙ rw none refl)
