use Rattle.{std.proofs.{Common.{rules, arith}, lemmas.Result.{err_from_is_err_and, on_ok_weaker, on_err_weaker}}, record_write.proofs.Puts.puts-more}
use Rattle.record_write.proofs.Puts.{cuts-behind, cuts-front}
use Rattle.record_write.proofs.words.put_photon.Goals as goal

pub returns-in_err-put_wraps-clause-cut : goal.returns-in_err-put_wraps-clause-cut
returns-in_err-put_wraps-clause-cut g c =
    let e = err_from_is_err_and c.from_residual.result c.from_residual.ensures.1 in
    let told = c.units_between-most.ensures in
    let cut = rw (told.most, told.units) at c.in_err-put_wraps.ensures.cut in
    rw e.1 (cuts-front _ _ c.args.block.now _ _ _ cut)

pub returns-clause-all : goal.returns-clause-all
returns-clause-all g c = search (rules, arith, on_ok_weaker, puts-more)

pub returns-clause-cut : goal.returns-clause-cut
returns-clause-cut g c =
    let told = c.units_between-most.ensures in
    let puts = rw (told.most, told.units) at c.in_ok-put_wraps.ensures.all in
    on_err_weaker c.put_word.result (λ p. cuts-behind _ _ _ c.args.block.now c.put_wraps.new.block _ _ _ puts p) c.put_word.ensures.cut
