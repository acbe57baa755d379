use Rattle.std.proofs.{Common.{append-nil, ◌<◌, filter, arith, nat_lt, nat_le, rules}, lemmas.List.{Sums.sum_by_push, Elements.filter-append}}
use Rattle.{lag_ring.{specs.declared.ring.Entry.Entry, proofs.Lists.{all_filter, all_map}}, fold_count.{specs.Folded.met_in, proofs.Bins.where_at_most}}
use Rattle.fold_count.proofs.{Bins.{photons_kept, room_left}, Nested.{join, photons_met_in}}
use Rattle.fold_count.proofs.waiting.settle.Goals as goal

pub count_bin-requires-clause-room : goal.count_bin-requires-clause-room
count_bin-requires-clause-room c =
    let counted = rw c.meet.ensures.met at c.count_closed.ensures.sum in
    omega (arith, counted, where_at_most (λ tick. nat_lt tick c.args.before) (met_in c.args.bin.now.b c.args.ring.now.entries), photons_met_in c.args.bin.now.b c.args.ring.now.entries, sum_by_push (λ (e : Entry). e.a) c.args.ring.now.entries c.args.bin.now, c.requires.room)

pub push-requires-clause-above : goal.push-requires-clause-above
push-requires-clause-above c =
    rw (c.retire.ensures.kept, c.meet.ensures.met)
    (all_filter (λ e. e.index < c.args.bin.now.index) (λ e. nat_le c.args.before e.index) (met_in c.args.bin.now.b c.args.ring.now.entries) (all_map (λ e. e.index < c.args.bin.now.index) (join c.args.bin.now.b) c.args.ring.now.entries c.requires.held.above))

pub push-requires-clause-room : goal.push-requires-clause-room
push-requires-clause-room c =
    let rising = rw (c.retire.ensures.kept, c.meet.ensures.met) at c.retire.ensures.rising in
    let few = room_left c.args.before c.args.bin.now.index c.args.ring.now.reach (met_in c.args.bin.now.b c.args.ring.now.entries) rising
    (all_map (λ e. e.index < c.args.bin.now.index) (join c.args.bin.now.b) c.args.ring.now.entries c.requires.held.above) c.if-bin-before.false c.requires.near in
    rw (c.retire.ensures.kept, c.meet.ensures.met) (omega (arith, few))

pub returns-then-bin-before-clause-kept : goal.returns-then-bin-before-clause-kept
returns-then-bin-before-clause-kept c =
    rw (c.retire.ensures.kept, c.meet.ensures.met)
    (search (rules, arith, filter-append, append-nil))

pub returns-then-bin-before-clause-sum : goal.returns-then-bin-before-clause-sum
returns-then-bin-before-clause-sum c =
    let counted = rw c.meet.ensures.met at c.count_closed.ensures.sum in
    rw (c.retire.ensures.kept, c.meet.ensures.met)
    (omega (arith, c.count_bin.ensures.sum, counted, photons_kept c.args.before (met_in c.args.bin.now.b c.args.ring.now.entries), photons_met_in c.args.bin.now.b c.args.ring.now.entries, sum_by_push (λ (e : Entry). e.a) c.args.ring.now.entries c.args.bin.now))

pub returns-else-bin-before-clause-kept : goal.returns-else-bin-before-clause-kept
returns-else-bin-before-clause-kept c =
    rw (c.push.ensures.pushed, c.retire.ensures.kept, c.meet.ensures.met)
    (search (rules, arith, filter-append))

pub returns-else-bin-before-clause-sum : goal.returns-else-bin-before-clause-sum
returns-else-bin-before-clause-sum c =
    let counted = rw c.meet.ensures.met at c.count_closed.ensures.sum in
    rw (c.push.ensures.pushed, c.retire.ensures.kept, c.meet.ensures.met)
    (omega (arith, counted, photons_kept c.args.before (met_in c.args.bin.now.b c.args.ring.now.entries), photons_met_in c.args.bin.now.b c.args.ring.now.entries, sum_by_push (λ (e : Entry). e.a) c.args.ring.now.entries c.args.bin.now, sum_by_push (λ (e : Entry). e.a) (filter (λ e. nat_le c.args.before e.index) (met_in c.args.bin.now.b c.args.ring.now.entries)) c.args.bin.now))
