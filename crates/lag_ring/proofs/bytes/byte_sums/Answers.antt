use Rattle.{std.proofs.{Common.{rules, arith}, lemmas.List.{get_or-replicate, Sums.sum_by_more_le}}, lag_ring.proofs.Sums.part-at}
use Rattle.lag_ring.proofs.bytes.byte_sums.Goals as goal

pub loop-spot-init : goal.loop-spot-init
loop-spot-init g c = λ q inside. get_or-replicate g.row.N q 0 0 inside

pub add_bytes-requires : goal.add_bytes-requires
add_bytes-requires g c = search (rules, arith, sum_by_more_le, part-at)
