use Rattle.{std.proofs.{Common.{◌<◌, ap, arith, length, nat_lt}, lemmas.List.Sums.sum_by-append}, lag_ring.specs.declared.ring.Entry.Entry}
use Rattle.{lag_ring.proofs.Lists.all_back, fold_count.{specs.Folded.photons_in, proofs.Bins.where_at_most}}
use Rattle.fold_count.proofs.waiting.count_closed.Goals as goal

pub count_front-requires-2-clause-inside : goal.count_front-requires-2-clause-inside
count_front-requires-2-clause-inside c = rw c.count_front.ensures.cells.same
    (all_back (λ e. e.b < length c.args.cells.now) c.slices.result.0.now c.slices.result.1.now (rw c.slices.ensures.entries c.requires.inside))

pub count_front-requires-2-clause-room : goal.count_front-requires-2-clause-room
count_front-requires-2-clause-room c =
    omega (arith, c.count_front.ensures.sum, where_at_most (λ tick. nat_lt tick c.args.before) c.slices.result.0.now, sum_by-append (λ (e : Entry). e.a) c.slices.result.0.now c.slices.result.1.now, ap photons_in c.slices.ensures.entries, c.requires.room)
