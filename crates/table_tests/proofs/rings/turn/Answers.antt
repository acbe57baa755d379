use Rattle.{std.{proofs.Common.{◌+◌, ◌<◌, nat_le, ap, arith}, specs.List.filter}, lag_ring.specs.{declared.ring.Entry.Entry, Ring.Ring}}
use Rattle.lag_ring.proofs.{Rising.{all_push, all_weaker}, Lists.all_filter}
use Rattle.table_tests.proofs.rings.turn.Goals as goal

pub push-requires-clause-above : goal.push-requires-clause-above
push-requires-clause-above c =
    let kept = ap (λ (r : Ring). r.entries) c.retire.ensures.kept in
    rw kept (all_filter (λ (e : Entry). e.index < c.args.index) (λ e. nat_le c.args.before e.index) c.args.ring.now.entries
    (all_weaker (λ (e : Entry). e.index < c.args.next) (λ e. e.index < c.args.index) (λ e below. omega arith) c.args.ring.now.entries c.requires.below))

pub returns-clause-below : goal.returns-clause-below
returns-clause-below c =
    let entries = ap (λ (r : Ring). r.entries) c.push.ensures.pushed in
    let kept = ap (λ (r : Ring). r.entries) c.retire.ensures.kept in
    rw (entries, kept) (all_push (λ (e : Entry). e.index < c.args.index + 1) (filter (λ e. nat_le c.args.before e.index) c.args.ring.now.entries) _
    (all_filter (λ (e : Entry). e.index < c.args.index + 1) (λ e. nat_le c.args.before e.index) c.args.ring.now.entries
    (all_weaker (λ (e : Entry). e.index < c.args.next) (λ e. e.index < c.args.index + 1) (λ e below. omega arith) c.args.ring.now.entries c.requires.below)) (omega arith))
