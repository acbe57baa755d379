use Rattle.{std.proofs.{Common.{refl, subst}, lemmas.Result.{err_from_is_err_and, on_ok_weaker, on_err_weaker}}, record_write.specs.Writing.PutsWords}
use Rattle.record_write.{specs.Writing.CutsWords, proofs.Puts.{puts-more, cuts-behind, cuts-front, even-wraps, odd-wraps}}
use Rattle.record_write.proofs.words.put_wraps.Goals as goal

pub returns-in_err-put_copies-clause-cut : goal.returns-in_err-put_copies-clause-cut
returns-in_err-put_copies-clause-cut g c =
    let e = err_from_is_err_and c.from_residual.result c.from_residual.ensures.1 in
    rw e.1 (cuts-front _ _ c.args.block.now _ _ _ c.in_err-put_copies.ensures.cut)

pub returns-then-rest-eq0-clause-all : goal.returns-then-rest-eq0-clause-all
returns-then-rest-eq0-clause-all g c =
    subst (PutsWords _ _ c.args.block.now _) (even-wraps c.args.most c.args.units _ refl c.if-rest-eq0.true) c.in_ok-put_copies.ensures.all

pub returns-clause-all : goal.returns-clause-all
returns-clause-all g c = on_ok_weaker c.put_word.result
    (λ p. subst (PutsWords _ _ c.args.block.now _) (odd-wraps c.args.most c.args.units _ _ refl refl c.if-rest-eq0.false)
    (puts-more _ _ _ c.args.block.now c.put_copies.new.block _ _ _ c.in_ok-put_copies.ensures.all p)) c.put_word.ensures.all

pub returns-clause-cut : goal.returns-clause-cut
returns-clause-cut g c = on_err_weaker c.put_word.result
    (λ p. subst (CutsWords _ _ c.args.block.now _) (odd-wraps c.args.most c.args.units _ _ refl refl c.if-rest-eq0.false)
    (cuts-behind _ _ _ c.args.block.now c.put_copies.new.block _ _ _ c.in_ok-put_copies.ensures.all p)) c.put_word.ensures.cut
