use Rattle.{std.proofs.Common.{◌≡◌, true}, tally_base.specs.Tally.floor_after, record_write.specs.Picker.{last_by, is_going}}
use Rattle.photon_pick.specs.Giving.{events_at, pen_on, Gave}
use Rattle.photon_pick.proofs.giving.give_photons.Given as goal

abbrev pub invariant-loop-k : goal.invariant-loop-k
invariant-loop-k g l = record {
  gave : Gave (pen_on g.O.Sink l.fn.picker l.fn.out l.fn.block) (pen_on g.O.Sink l.picker l.out l.block) (events_at l.events l.places l.k);
  going : is_going l.picker ≡ true;
  last : last_by l.picker ≡ floor_after true (last_by l.fn.picker) (events_at l.events l.places l.k);
}
