use Rattle.std.proofs.{Common.{◌≡◌, ◌+◌, ◌*◌, ◌^◌, ◌≤◌, ap, arith, rules, slice_index}, lemmas.Bool.{lt-ltb, le-ltb}}
use Rattle.{record_layout.specs.declared.row.Row.Row, lane_decode.specs.{InColumns.{wraps_at, sum_to}, Staying.staying}}
use Rattle.record_stream.proofs.WholeBlocks.{product-more, none-more, first-is}
use Rattle.record_stream.proofs.ahead.first_event.Goals as goal

pub loop-at-init : goal.loop-at-init
unfolding sum_to staying
loop-at-init g c = search (rules, arith)

pub overflow_add-before : goal.overflow_add-before
overflow_add-before g c =
    let columns = c.args.columns.now in
    let at = c.loop-at.at in
    let here : c.get-row.result.wraps ≡ wraps_at columns at = ap (λ (r : Row). r.wraps) c.get-row.ensures in
    let more = product-more g.R.RecordLayout.UNIT (wraps_at columns) at in
    rw (here, c.UNIT.ensures) (omega (arith, more, c.requires at c.loop-at-test.true, c.loop-at.invariant.before))

pub overflow_add-result : goal.overflow_add-result
overflow_add-result g c =
    let columns = c.args.columns.now in
    let at = c.loop-at.at in
    let here : c.get-row.result.wraps ≡ wraps_at columns at = ap (λ (r : Row). r.wraps) c.get-row.ensures in
    let time : c.get-row.result.time ≡ slice_index columns.times at = ap (λ (r : Row). r.time) c.get-row.ensures in
    let more = product-more g.R.RecordLayout.UNIT (wraps_at columns) at in
    rw (here, c.UNIT.ensures) (omega (arith, more, time, c.requires at c.loop-at-test.true, c.loop-at.invariant.before))

pub returns-then-row-lt512 : goal.returns-then-row-lt512
returns-then-row-lt512 g c = λ k ks are.
    let unit = g.R.RecordLayout.UNIT in
    let columns = c.args.columns.now in
    let at = c.loop-at.at in
    let less = rw c.get-row.ensures at (lt-ltb c.get-row.result.code 512 c.if-row-lt512.true) in
    let is : k ≡ at = first-is 512 columns at k ks c.loop-at-test.true c.loop-at.invariant.none less are in
    let wraps : c.get-row.result.wraps ≡ wraps_at columns at = ap (λ (r : Row). r.wraps) c.get-row.ensures in
    let time : c.get-row.result.time ≡ slice_index columns.times at = ap (λ (r : Row). r.time) c.get-row.ensures in
    rw (is, wraps, c.UNIT.ensures) (omega (arith, time, product-more unit (wraps_at columns) at, c.loop-at.invariant.before))

pub loop-at-preserved : goal.loop-at-preserved
loop-at-preserved g c = search (rules, arith, le-ltb, product-more, none-more)
