use Rattle.{std.proofs.Common.{◌∙◌, ◌<◌, ◌≤◌, ◌-◌, ◌/◌, refl, sym, ap, arith}, tally_base.specs.Settings.trace_view, long_trace.specs.States.state_of}
use Rattle.long_trace.proofs.BinSteps.{binned-is, later_bin, CountsOn-next}
use Rattle.long_trace.proofs.counting.Counting.open_next.Goals as goal

pub returns-clause-counts : goal.returns-clause-counts
returns-clause-counts c = λ lines e groups is_time group.
    let set = trace_view c.args.self.now.set in
    let n = c.args.self.now in
    let next = c.of-bin.result.index in
    let above = later_bin set.origin n.newest.bin.index set.width n.newest.bin.low c.args.time n.set.some_width.0 c.requires.step.edge c.requires.later in
    let later : n.newest.bin.index < next = omega (arith, above, c.of-bin.ensures.index) in
    let begun : set.origin ≤ e.time = omega (arith, is_time, c.requires.step.edge, c.requires.later) in
    CountsOn-next set (state_of n c.args.closed.now) (e, groups) lines _
    next c.close.new.self.frequencies c.close.new.self.many (binned-is set (e, groups) group begun)
    (ap (λ t. (t - set.origin) / set.width) is_time ∙ sym c.of-bin.ensures.index) later c.close.ensures.frequencies c.close.ensures.many refl
