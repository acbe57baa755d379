use Rattle.std.{proofs.Common.{◌≡◌, ℕ, ◌+◌, ◌/◌, ◌<◌, List, ◌++◌, get_or}, specs.{List.sum_by, Slice.Iter.{chunks_rest, chunks_size}}}
use Rattle.lag_ring.specs.Bytes.{behind}
use Rattle.lag_ring.proofs.bytes.byte_lag_sums.Given as goal

abbrev pub invariant-loop-part : goal.invariant-loop-part
invariant-loop-part g l =
    (goal.iterator-loop-part g).can_next l.part-iterator
    × (goal.iterator-loop-part g).is_finite l.part-iterator
    × (chunks_size l.part-iterator ≡ 255 / l.most)
    × (done : List ℕ) × (done ++ chunks_rest l.part-iterator ≡ l.spots)
    × ((q : ℕ) → q < g.row.N → get_or l.sums q 0 ≡ sum_by (behind l.window (l.from + q)) done)
