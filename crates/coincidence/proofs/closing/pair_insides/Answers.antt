use Rattle.{std.proofs.{Common.{◌≤◌, ◌*◌, [], arith}, lemmas.List.Sums.{sum_by_more, sum_by_more_le}}, tally_base.specs.Settings.coincidence_view}
use Rattle.{lag_ring.proofs.Lists.each_at, coincidence.{specs.{declared.pairing.Bin.Bin, Pairing.bin_pairs}, proofs.Visits.{counts_on, room_left}}}
use Rattle.coincidence.proofs.closing.pair_insides.Goals as goal

abbrev no_bin : Bin
no_bin = record { weights = record { index = 0; a = 0; b = 0 }; both = 0 }

pub pair_inside-requires-clause-both : goal.pair_inside-requires-clause-both
pair_inside-requires-clause-both g c = each_at (λ bin. bin.both ≤ bin.weights.a * bin.weights.b) _ _ no_bin c.loop-bin-test.true c.requires.both

pub pair_inside-requires-clause-room : goal.pair_inside-requires-clause-room
pair_inside-requires-clause-room g c = room_left _ _ _ _ _ _ _ _ _ c.loop-bin.invariant c.requires.room
    (λ at inside. sum_by_more_le (λ bin. bin_pairs (coincidence_view c.args.set.now) at bin []) _ _ no_bin c.loop-bin-test.true)

pub loop-bin-preserved : goal.loop-bin-preserved
loop-bin-preserved g c = counts_on _ _ _ _ _ _ _ _ _ c.loop-bin.invariant _ _ _ _ c.pair_inside.ensures
    (λ at inside. sum_by_more (λ bin. bin_pairs (coincidence_view c.args.set.now) at bin []) _ _ no_bin c.loop-bin-test.true) (omega arith)
