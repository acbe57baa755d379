use Rattle.{std.proofs.Common.{◌<◌, ◌-◌, arith, nat_le, refl}, lag_ring.{specs.declared.ring.Entry.Entry, proofs.Lists.all_filter}}
use Rattle.coincidence.proofs.pairing.append.Goals as goal

pub push-requires-clause-above : goal.push-requires-clause-above
push-requires-clause-above g c = rw (c.retire.ensures.kept, c.least_kept.ensures)
    (all_filter (λ (e : Entry). e.index < c.args.later.now.index) (λ e. nat_le (c.args.later.now.index - (c.args.set.now.reach - 1)) e.index) _ c.requires.after)

pub push-requires-clause-room : goal.push-requires-clause-room
push-requires-clause-room g c = rw (c.retire.ensures.kept, c.least_kept.ensures) (omega (arith, c.requires.place))

pub returns-clause-kept : goal.returns-clause-kept
returns-clause-kept g c = rw (c.push.ensures.pushed, c.retire.ensures.kept, c.least_kept.ensures) refl
