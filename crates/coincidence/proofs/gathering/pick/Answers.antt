use Rattle.{std.proofs.Common.{◌≡◌, ◌<◌, ◌||◌, cond, length, refl, arith, rules}, tally_base.specs.Settings.coincidence_view}
use Rattle.coincidence.{specs.Picked.has_either, proofs.Picked.picked_row}
use Rattle.coincidence.proofs.gathering.pick.Goals as goal

pub loop-at-preserved : goal.loop-at-preserved
loop-at-preserved c =
    let set = coincidence_view c.args.given.set in
    let found = c.has_photon-first.result || c.has_photon-second.result in
    let is : has_either set c.args.given.block.now c.loop-at.at ≡ found = rw (c.has_photon-first.ensures, c.has_photon-second.ensures) refl in
    let room : c.loop-at.picked < length c.loop-at.rows = search (rules, arith) in
    let one : c.from-picked.result ≡ cond found 1 0 = search (rules, arith) in
    record {
      few = grind (arith, one, c.loop-at.invariant.few);
      picked = rw one (picked_row set c.args.given.block.now found c.loop-at.rows c.loop-at.picked c.loop-at.at room is c.loop-at.invariant.picked);
    }
