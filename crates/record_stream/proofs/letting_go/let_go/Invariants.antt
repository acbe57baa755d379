use Rattle.{std.proofs.Common.{◌≡◌, List, ℕ}, abs_time.specs.Placing.placed_by, tally_base.specs.Columns.{event_at, gathered, rows, sorted}}
use Rattle.record_stream.specs.{LettingGo.{LetsGo, IsDelivered}, Settling.IsSettledBehind, Walking.{how_of, clock_in}}
use Rattle.record_stream.proofs.letting_go.let_go.Given as goal

abbrev pub invariant-loop-at : goal.invariant-loop-at
invariant-loop-at l = record {
  lets_go : LetsGo (how_of l.walk).mode (placed_by (clock_in l.walk)) l.fn.settle l.settle (rows (event_at l.block) l.at) (gathered l.out);
  delivers : (words : List ℕ) → IsSettledBehind l.walk l.fn.settle words
      → IsDelivered (how_of l.walk) l.settle words (rows (event_at l.block) l.at) (gathered l.out);
  unsorted : sorted l.out ≡ 0;
}
