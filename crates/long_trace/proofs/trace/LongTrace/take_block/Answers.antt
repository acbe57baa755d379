use Rattle.{std.proofs.Common.{◌∙◌, false, refl, sym, ap, arith, rules}, tally_base.specs.{Columns.{item, gathered, events_in}, Tally.{floor_after, InOrder}}}
use Rattle.{tally_base.{specs.Tally.greatest_time, proofs.{Floors.greatest-rows, BlockRows.length-rows}}, long_trace.proofs.Steps.GivenMore-counts}
use Rattle.long_trace.proofs.trace.LongTrace.take_block.Goals as goal

pub returns-clause-given : goal.returns-clause-given
returns-clause-given c =
    let t = c.args.self.now in
    let b = c.args.block.now in
    let done = c.count_block-self.ensures.counted in
    GivenMore-counts t _ (events_in b) _ c.count_block-self.new.lines.items done.same_set refl refl done.counts refl done.before
    (omega (arith, c.len.ensures.count, length-rows (item b) b.len))
    (λ h is.
    let order : InOrder false (greatest_time false h) (gathered b) = rw (← is) c.requires.can.in_order in
    c.count_block-self.ensures.floor ∙ ap (λ n. floor_after false n (gathered b)) is ∙ sym (greatest-rows false h (item b) b.len order))

pub invariant_of-self-clause-few : goal.invariant_of-self-clause-few
invariant_of-self-clause-few c = search (rules, arith, length-rows)

pub invariant_of-self-clause-filled : goal.invariant_of-self-clause-filled
invariant_of-self-clause-filled c = search (rules, arith, length-rows)
