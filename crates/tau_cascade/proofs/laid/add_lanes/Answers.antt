use Rattle.std.proofs.{Common.{arith, rules}, lemmas.{List.{get_or-take, length-take-le, length-replicate, get_or-replicate}, Simd.length-zip2}}
use Rattle.tau_cascade.proofs.Dots.{lane}
use Rattle.tau_cascade.proofs.laid.add_lanes.Goals as goal

pub returns-clause-same : goal.returns-clause-same
returns-clause-same g c = search (rules, arith, length-zip2, length-take-le, length-replicate)

pub returns-clause-sums : goal.returns-clause-sums
returns-clause-sums g c = λ q inside. lane g.row.N c.args.sums _ _
    (c.requires.all.0, length-take-le g.row.N c.args.part.now (omega (arith, c.requires.all.1)), length-replicate g.row.N c.args.times)
    q _ _ (get_or-take g.row.N c.args.part.now q 0 inside) (get_or-replicate g.row.N q c.args.times 0 inside) inside (c.requires.fits q inside)
