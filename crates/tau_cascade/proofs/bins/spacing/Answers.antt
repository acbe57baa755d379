use Rattle.{std.proofs.Common.{rules, arith}, tau_cascade.proofs.Passes.spaced_more}
use Rattle.tau_cascade.proofs.bins.spacing.Goals as goal

pub loop-at-preserved : goal.loop-at-preserved
loop-at-preserved c = λ some.
    let more = spaced_more c.loop-at.least c.min-least.result c.loop-at.at c.args.bins.now (record { index = 0; a = 0; b = 0 }) in
    search (rules, arith, more)
