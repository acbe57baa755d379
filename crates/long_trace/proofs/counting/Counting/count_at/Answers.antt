use Rattle.{std.proofs.Common.{◌≡◌, ◌∙◌, ◌<◌, ◌≤◌, ◌-◌, ◌/◌, ap, arith}, tally_base.specs.Settings.trace_view, long_trace.specs.States.state_of}
use Rattle.long_trace.proofs.{Steps.of_group, BinSteps.{binned-early, binned-not, none-group, same_bin, CountsOn-none, CountsOn-in}}
use Rattle.long_trace.proofs.counting.Counting.count_at.Goals as goal

pub returns-then-time-self-clause-counts : goal.returns-then-time-self-clause-counts
returns-then-time-self-clause-counts g c = λ e groups is_time is.
    let set = trace_view c.args.self.now.set in
    let early : e.time < set.origin = omega (arith, is_time, c.if-time-self.true) in
    CountsOn-none set (state_of c.args.self.now c.args.closed.now) (e, groups) c.args.lines.now.items (binned-early set (e, groups) early)

pub returns-then-time-self-2-clause-counts : goal.returns-then-time-self-2-clause-counts
returns-then-time-self-2-clause-counts g c = λ e groups is_time is.
    let set = trace_view c.args.self.now.set in
    let n = c.args.self.now in
    let begun : set.origin ≤ e.time = omega (arith, is_time, c.if-time-self.false) in
    CountsOn-in set (state_of n c.args.closed.now) (e, groups) c.args.lines.now.items c.args.more is begun
    (ap (λ t. (t - set.origin) / set.width) is_time
    ∙ same_bin set.origin n.newest.bin.index set.width n.newest.bin.low c.args.time c.requires.can.step.edge c.if-self-time.true c.if-time-self-2.true)

pub returns-else-more-gt0-clause-counts : goal.returns-else-more-gt0-clause-counts
returns-else-more-gt0-clause-counts g c = λ e groups is_time is.
    let set = trace_view c.args.self.now.set in
    let none : c.args.more ≡ 0 = omega (arith, c.if-more-gt0.false) in
    CountsOn-none set (state_of c.args.self.now c.args.closed.now) (e, groups) c.args.lines.now.items
    (binned-not set (e, groups) (none-group (of_group set (e, groups)) c.args.more is none))
