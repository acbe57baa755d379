use Rattle.{std.proofs.{Common.{rules, arith, map, ◌+◌}, lemmas.List.{get_or-map, length-map}}, tau_cascade.{specs.Bins.raised, proofs.Close.no_bin}}
use Rattle.tau_cascade.proofs.Passes.{spaced_more}
use Rattle.tau_cascade.proofs.laid.is_apart.Goals as goal

pub loop-at-preserved : goal.loop-at-preserved
loop-at-preserved c =
    let more = spaced_more (c.args.lags + 1) (c.args.lags + 1) c.loop-at.at (map (raised c.args.bins.levels) c.args.bins.list.now) no_bin in
    search (rules, arith, more, get_or-map, length-map)
