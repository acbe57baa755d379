use Rattle.{std.proofs.Common.{◌≡◌, ◌+◌, ◌-◌, ◌*◌, ◌≤◌, ◌++◌, take, drop}, tally_base.specs.Columns.{event_at, rows, count, gathered}}
use Rattle.list_out.proofs.Rows.{lines}
use Rattle.list_out.proofs.event.format_block.Given as goal

abbrev pub invariant-back : goal.invariant-back
invariant-back l = record {
  few : l.at ≤ count l.block;
  from : l.from ≤ l.at;
  room : 96 * (l.at - l.from) ≤ l.start;
  inside : l.start ≤ 6144;
  whole : lines (rows (λ i. event_at l.block (l.from + i)) (l.at - l.from)) ++ drop l.start l.text ≡ lines (take 64 (drop l.from (gathered l.block)));
}

abbrev pub decreases-back : goal.decreases-back
decreases-back l = l.at
