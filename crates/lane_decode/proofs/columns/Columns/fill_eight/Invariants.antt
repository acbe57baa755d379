use Rattle.{std.proofs.Common.◌+◌, lane_decode.specs.InColumns.HasRowsTo}
use Rattle.lane_decode.proofs.columns.Columns.fill_eight.Given as goal

abbrev pub invariant-loop-j : goal.invariant-loop-j
invariant-loop-j g l = HasRowsTo g.R.RecordLayout.meaning g.R.RecordLayout.UNIT l.self l.words (l.at + l.j)
