use Rattle.{std.proofs.Common.{ap, ◌∙◌}, ptu_definitions.specs.Times.amount, lane_decode.proofs.Filled.rows-more}
use Rattle.lane_decode.proofs.columns.Columns.fill.Goals as goal

pub loop-i-preserved : goal.loop-i-preserved
loop-i-preserved g c =
    let means = ap g.R.RecordLayout.meaning c.from_le_bytes.ensures in
    rows-more _ _ _ _ c.args.words.now c.loop-i.i c.row.result c.loop-i.invariant c.put.ensures.others
    (c.put.ensures.record g.R.RecordLayout.UNIT) c.put.ensures.wraps (record { raw = c.row.ensures.record ∙ means; amounts = c.row.ensures.wraps ∙ ap amount means })
