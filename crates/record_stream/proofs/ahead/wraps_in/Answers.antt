use Rattle.{std.proofs.Common.{◌≡◌, ◌^◌, ap, arith, rules}, record_layout.specs.declared.row.Row.Row, lane_decode.specs.InColumns.{wraps_at, sum_to}}
use Rattle.lane_decode.proofs.Added.{sum-more, sum-few}
use Rattle.record_stream.proofs.ahead.wraps_in.Goals as goal

pub loop-at-init : goal.loop-at-init
unfolding sum_to
loop-at-init c = search (rules, arith)

pub overflow_add-wraps : goal.overflow_add-wraps
overflow_add-wraps c =
    let columns = c.args.columns.now in
    let at = c.loop-at.at in
    let here : c.get-wraps.result.wraps ≡ wraps_at columns at = ap (λ (r : Row). r.wraps) c.get-wraps.ensures in
    omega (arith, here, c.loop-at.invariant, c.loop-at-test.true, c.requires at c.loop-at-test.true, sum-few (wraps_at columns) (2 ^ 25) at (λ k lt. c.requires k (omega (arith, lt, c.loop-at-test.true))))

pub loop-at-preserved : goal.loop-at-preserved
loop-at-preserved c = search (rules, arith, sum-more)
