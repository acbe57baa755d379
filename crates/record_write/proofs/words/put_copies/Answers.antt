use Rattle.{std.proofs.{Common.{arith, rules}, lemmas.Result.err_from_is_err_and}, record_write.proofs.Puts.{puts-none, puts-copy, cuts-copy}}
use Rattle.record_write.proofs.words.put_copies.Goals as goal

pub loop-copy-init : goal.loop-copy-init
loop-copy-init g c = puts-none _ c.args.block.now

pub loop-copy-preserved : goal.loop-copy-preserved
loop-copy-preserved g c = search (rules, arith, puts-copy)

pub returns-in_err-put_word-clause-cut : goal.returns-in_err-put_word-clause-cut
returns-in_err-put_word-clause-cut g c =
    let e = err_from_is_err_and c.from_residual.result c.from_residual.ensures.1 in
    rw e.1 (cuts-copy _ _ _ c.args.block.now c.loop-copy.block _ c.loop-copy.copy c.args.count
    c.args.word c.loop-copy-test.true c.loop-copy.invariant c.in_err-put_word.ensures.cut)
