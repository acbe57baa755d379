use Rattle.{std.proofs.Common.◌*◌, lane_decode.specs.InColumns.HasRowsTo}
use Rattle.lane_decode.proofs.columns.Columns.fill.Given as goal

abbrev pub invariant-loop-k : goal.invariant-loop-k
invariant-loop-k g l = HasRowsTo g.R.RecordLayout.meaning g.R.RecordLayout.UNIT l.self l.words (8 * l.k)

abbrev pub invariant-loop-i : goal.invariant-loop-i
invariant-loop-i g l = HasRowsTo g.R.RecordLayout.meaning g.R.RecordLayout.UNIT l.self l.words l.i
