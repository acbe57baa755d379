use Rattle.{std.proofs.Common.{◌≡◌, ◌∷◌, [], refl, arith, ◌+◌}, tally_base.specs.Settings.trace_view, count_trace.specs.TraceCounts.count_before}
use Rattle.long_trace.proofs.{BinSteps.before-push, Steps.{GivenMore-counts, floor-one}}
use Rattle.long_trace.proofs.trace.LongTrace.take.Goals as goal

pub returns-clause-given : goal.returns-clause-given
returns-clause-given c =
    let t = c.args.self.now in
    let e = c.args.e.now in
    let groups = c.args.groups in
    let one = before-push (trace_view t.counting.set) [] (e, groups) c.photons_in-more.result c.photons_in-more.ensures in
    let added : c.count_at.new.self.before ≡ t.counting.before + count_before (trace_view t.counting.set) ((e, groups) ∷ []) = omega (arith, c.count_at.ensures.counted.before, one) in
    GivenMore-counts t _ ((e, groups) ∷ []) c.new-line.result.items c.count_at.new.lines.items c.count_at.ensures.counted.same_set refl refl
    (c.count_at.ensures.counts e groups refl c.photons_in-more.ensures) c.new-line.ensures
    added refl (λ h is. floor-one h e groups t.floor _ c.requires.can.in_order c.floor_behind-self.ensures is)
