use Rattle.{std.proofs.Common.{◌≤◌, ◌++◌, false}, tally_base.specs.{Settings.fold_view, Tally.{History, floor_after}, Columns.{item, event_at, rows}}}
use Rattle.fold_count.specs.Folded.{Stands, Took}
use Rattle.fold_count.proofs.taking.put_block.Given as goal

abbrev pub invariant-loop-at : goal.invariant-loop-at
invariant-loop-at l = record {
  took : Took (fold_view l.set) l.fn.cells l.cells l.fn.ring l.ring l.fn.bin l.last l.at;
  begun : l.last.index ≤ floor_after false l.fn.bin.index (rows (event_at l.block) l.at);
  follows : (h : History) → Stands (fold_view l.set) l.fn.cells l.fn.ring l.fn.bin h
      → Stands (fold_view l.set) l.cells l.ring l.last (h ++ rows (item l.block) l.at);
}
