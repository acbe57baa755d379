use Rattle.{std.proofs.Common.{◌≡◌, rules, arith}, tally_base.specs.Settings.coincidence_view, lag_ring.specs.Bytes.weight_of}
use Rattle.coincidence.{specs.Pairing.other_side, proofs.Visits.no_pairs}
use Rattle.coincidence.proofs.pairing.pair_direction.Goals as goal

pub returns-else-weight-gt0 : goal.returns-else-weight-gt0
returns-else-weight-gt0 g c =
    let none : weight_of (other_side c.args.direction) c.args.later ≡ 0 = search (rules, arith) in
    record {
      cells = λ at inside. omega (arith, no_pairs c.args.direction (coincidence_view c.args.set) at c.args.later none c.args.entries.now);
      spends = search (rules, arith);
    }
