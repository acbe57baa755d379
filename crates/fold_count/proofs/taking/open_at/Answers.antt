use Rattle.{std.proofs.{Common.{◌≡◌, ◌-◌, ◌<◌, filter, rules, arith, nat_le}, lemmas.List.Sums.sum_by_push}, tally_base.specs.Settings.fold_view}
use Rattle.{lag_ring.specs.declared.ring.Entry.Entry, fold_count.{specs.Folded.{as_met, photons}, proofs.Nested.{met_in_none, can_settle, sound_later}}}
use Rattle.fold_count.proofs.Settled.{parted_later}
use Rattle.fold_count.proofs.taking.open_at.Goals as goal

pub settle-requires-clause-held : goal.settle-requires-clause-held
settle-requires-clause-held c = search (rules, arith, can_settle)

pub returns-clause-settled : goal.returns-clause-settled
returns-clause-settled c =
    let after : c.args.bin.index < c.args.time = omega (arith, c.if-time-bin.false, c.requires.after.0) in
    record {
      sound = rw (c.at.ensures, c.settle.ensures.kept) (sound_later (fold_view c.args.set.now) c.args.cells.now c.settle.new.cells c.args.ring.now c.args.bin c.saturating_sub-before.result c.args.time c.requires.ready.sound c.settle.ensures.cells.same (rw c.settle.ensures.kept at c.settle.ensures.within) (λ le. after) c.requires.after.1);
      same = rw c.at.ensures (omega (arith, c.settle.ensures.sum, sum_by_push (λ (e : Entry). e.a) c.settle.new.ring.entries (record { index = c.args.time; a = 0; b = 0 })));
    }

pub returns-clause-follows : goal.returns-clause-follows
returns-clause-follows c = λ h is.
    let set = fold_view c.args.set.now in
    let bins = as_met c.args.ring.now c.args.bin in
    let at_front : c.saturating_sub-before.result ≡ c.args.time - set.window = search (rules, arith) in
    let settled = rw at_front at c.settle.ensures in
    rw (c.at.ensures, settled.kept, met_in_none (filter (λ e. nat_le (c.args.time - set.window) e.index) bins))
    (parted_later set c.args.cells.now bins c.args.bin.index (photons set h) is c.settle.new.cells c.args.time (omega (arith, c.if-time-bin.false, c.requires.after.0))
    (λ s inside. settled.cells.each s (rw c.requires.ready.sound.sized inside)))
