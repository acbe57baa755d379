use Rattle.{std.proofs.Common.{◌<◌, ◌++◌, false, rules, arith, append_assoc}, tally_base.specs.{Columns.{item, event_at, rows}, Tally.floor_after}}
use Rattle.tally_base.proofs.{BlockRows.more_rows, Floors.{floor-more, order-at}}
use Rattle.fold_count.proofs.taking.put_block.Goals as goal

pub put_event-last-requires-clause-in_time : goal.put_event-last-requires-clause-in_time
put_event-last-requires-clause-in_time c =
    let b = c.args.block.now in
    let within : c.loop-at.at < b.len = search (rules, arith) in
    let next = order-at false c.args.bin.index (event_at b) b.len c.loop-at.at within c.requires.comes.in_order in
    rw c.get-groups.ensures (next.0, λ photon. let after = next.1 photon in omega (arith, c.loop-at.invariant.begun, after))

pub loop-at-preserved : goal.loop-at-preserved
loop-at-preserved c =
    let b = c.args.block.now in
    let at = c.loop-at.at in
    let inv = c.loop-at.invariant in
    let put = rw c.get-groups.ensures at c.put_event-last.ensures in
    record {
      took = record { sound = put.took.sound; few = omega (arith, inv.took.few, put.took.few) };
      begun = rw (floor-more false c.args.bin.index (event_at b) at) (put.begun (floor_after false c.args.bin.index (rows (event_at b) at)) inv.begun);
      follows = λ h is. rw (more_rows (item b) at, ← append_assoc) (put.follows (h ++ rows (item b) at) (inv.follows h is));
    }
