use Rattle.{std.proofs.Common.{◌≡◌, rules, arith}, tally_base.specs.Settings.coincidence_view, lag_ring.specs.Bytes.weight_of}
use Rattle.coincidence.proofs.LagPairs.{no_lag_pairs}
use Rattle.coincidence.proofs.lags.pair_with_later.Goals as goal

pub returns-else-weight-gt0 : goal.returns-else-weight-gt0
returns-else-weight-gt0 g c =
    let none : weight_of c.args.lags.direction c.args.earlier.now ≡ 0 = search (rules, arith) in
    record {
      cells = λ at inside. omega (arith, no_lag_pairs c.args.lags.direction (coincidence_view c.args.lags.set) at c.args.lags.from c.args.lags.count c.args.earlier.now none c.args.later.now);
      spends = search (rules, arith);
    }
