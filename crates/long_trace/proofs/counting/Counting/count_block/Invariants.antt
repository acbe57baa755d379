use Rattle.{std.proofs.Common.{◌≤◌, ◌*◌, false}, arrayvec.specs.ArrayVec.array_vec_len, tally_base.specs.{Columns.{item, event_at, rows}, Tally.floor_after}}
use Rattle.long_trace.specs.States.{IsUpTo, CountsAll}
use Rattle.long_trace.proofs.counting.Counting.count_block.Given as goal

abbrev pub invariant-loop-at : goal.invariant-loop-at
invariant-loop-at l = record {
  stands : IsUpTo l.own l.closed (floor_after false l.floor (rows (event_at l.block) l.at));
  counted : CountsAll l.fn.self l.own l.fn.closed l.closed (rows (item l.block) l.at) l.lines.items;
  room : array_vec_len l.lines ≤ 42 * l.at;
}
