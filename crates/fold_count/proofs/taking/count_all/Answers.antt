use Rattle.{std.proofs.{Common.{◌+◌, arith, rules}, lemmas.List.Sums.sum_by_push}, tally_base.specs.Settings.fold_view}
use Rattle.{lag_ring.specs.declared.ring.Entry.Entry, fold_count.{specs.Folded.{as_met, photons}, proofs.Nested.{can_settle, sound_later}}}
use Rattle.fold_count.proofs.Settled.{counts_all}
use Rattle.fold_count.proofs.taking.count_all.Goals as goal

pub settle-requires-clause-held : goal.settle-requires-clause-held
settle-requires-clause-held c = search (rules, arith, can_settle)

pub returns-clause-settled : goal.returns-clause-settled
returns-clause-settled c =
    let bin = c.args.bin in
    record {
      sound = rw (c.at.ensures, c.settle.ensures.kept) (sound_later (fold_view c.args.set.now) c.args.cells.now c.settle.new.cells c.args.ring.now bin (bin.index + 1) bin.index c.requires.sound c.settle.ensures.cells.same (rw c.settle.ensures.kept at c.settle.ensures.within) (λ le. absurd (omega (arith, le))) c.requires.sound.in_time);
      same = rw c.at.ensures (omega (arith, c.settle.ensures.sum, sum_by_push (λ (e : Entry). e.a) c.settle.new.ring.entries (record { index = c.args.bin.index; a = 0; b = 0 })));
    }

pub returns-clause-follows : goal.returns-clause-follows
returns-clause-follows c = λ h is.
    counts_all (fold_view c.args.set.now) c.args.cells.now (as_met c.args.ring.now c.args.bin) c.args.bin.index (photons (fold_view c.args.set.now) h) is c.settle.new.cells
    (λ s inside. c.settle.ensures.cells.each s (rw c.requires.sound.sized inside))
