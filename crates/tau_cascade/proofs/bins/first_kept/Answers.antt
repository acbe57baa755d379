use Rattle.{std.proofs.{Common.{◌≡◌, ◌-◌, suc, map, rules, arith}, lemmas.List.{get_or-map, length-map}}, tau_cascade.proofs.{Close.no_bin, Keeping.kept_from}}
use Rattle.tau_cascade.{proofs.Spread.spaced_before, specs.Bins.raised}
use Rattle.tau_cascade.proofs.bins.first_kept.Goals as goal

pub returns-then-bins-start-clause-left : goal.returns-then-bins-start-clause-left
returns-then-bins-start-clause-left c =
    let one : suc (c.back.start - 1) ≡ c.back.start = omega arith in
    let below = spaced_before (map (raised c.args.levels) c.args.bins.now) (c.back.start - 1) c.args.before no_bin c.requires.1 in
    search (rules, arith, one, below, get_or-map, length-map)

pub back-preserved : goal.back-preserved
back-preserved c =
    let kept = kept_from c.args.before c.back.start (map (raised c.args.levels) c.args.bins.now) no_bin c.back-test.true in
    search (rules, arith, kept, get_or-map, length-map)
