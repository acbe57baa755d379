use Rattle.{std.proofs.{Common.{◌<◌, [], length, arith, rules, sym, append-nil}, lemmas.Result.err_from_is_err_and}, tally_base.specs.Columns.gathered}
use Rattle.trace_work.proofs.TraceSteps.{Traced-block, TracedShort-block, block-in_order, block-below, block-length}
use Rattle.trace_work.proofs.trace.TraceLinesEventTaker.take_block.Goals as goal

pub returns-then-len-eq0-clause-follows : goal.returns-then-len-eq0-clause-follows
returns-then-len-eq0-clause-follows g c = search (rules, arith, append-nil)

pub returns-then-len-eq0-clause-moved : goal.returns-then-len-eq0-clause-moved
returns-then-len-eq0-clause-moved g c = search (rules, arith)

pub returns-in_err-put-clause-broken : goal.returns-in_err-put-clause-broken
returns-in_err-put-clause-broken g c =
    let es = gathered c.args.block.now in
    let p = err_from_is_err_and c.from_residual.result c.from_residual.ensures.1 in
    let some : 0 < length es = search (rules, arith) in
    let given = rw c.sort_events.ensures.sorted at c.take_block.ensures.given in
    rw p.1 (record {
      front = es;
      back = [];
      some = some;
      are = sym (append-nil es);
      broken = λ start l h. TracedShort-block _ _ _ _ _ _ _ _ _ _ _ _ _ _ l _ _ _ es c.take_block.new.lines.items h given
          (rw c.as_slice.ensures.value at c.in_err-put.ensures.short) c.in_err-put.ensures.empty;
    })

pub returns-clause-follows : goal.returns-clause-follows
returns-clause-follows g c = λ start l h.
    let given = rw c.sort_events.ensures.sorted at c.take_block.ensures.given in
    Traced-block _ _ _ _ _ _ _ _ _ _ _ _ _ _ l _ _ _ (gathered c.args.block.now) c.take_block.new.lines.items _ _ h given (rw c.as_slice.ensures.value at c.in_ok-put.ensures.all) c.requires.in_order (search (rules, arith)) (search rules)

pub take_block-requires : goal.take_block-requires
take_block-requires g c = record { can = search (rules, arith, block-length, block-in_order) }

pub invariant_of-self : goal.invariant_of-self
invariant_of-self g c = search (rules, arith, block-length, block-below)
