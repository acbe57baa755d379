use Rattle.{std.proofs.{Common.{rules, ℕ, ◌≡◌, ◌-◌, ◌*◌, ◌/◌, ◌<◌, ◌≤◌, arith}, lemmas.Bool.Decides.nat_tests}, tally_base.specs.Settings.coincidence_view}
use Rattle.{tally_base.specs.Settings.coincidence_cells, lag_ring.specs.Bytes.weight_of, coincidence.specs.Pairing.{shifted_by, other_side, lag_pair}}
use Rattle.coincidence.proofs.Visits.{shifted_inside}
use Rattle.coincidence.proofs.pairing.pair_one.Goals as goal

pub add_pairs-requires-clause-sum : goal.add_pairs-requires-clause-sum
add_pairs-requires-clause-sum g c =
    let set = coincidence_view c.args.lags.set in
    let d = c.args.lags.direction in
    let apart : ℕ = c.args.later.now.index - c.args.earlier.now.index in
    let at : ℕ = shifted_by d set.reach apart / set.width in
    let near : apart ≤ set.reach = search (rules, arith) in
    let inside : at < coincidence_cells set = shifted_inside d set.reach apart set.width c.args.lags.set.some_width.0 near in
    let here : lag_pair d set at c.args.lags.from c.args.lags.count c.args.later.now c.args.earlier.now ≡ weight_of d c.args.earlier.now * weight_of (other_side d) c.args.later.now = search (rules, arith, nat_tests) in
    search (rules, arith, c.requires.room.fits at inside, here)
