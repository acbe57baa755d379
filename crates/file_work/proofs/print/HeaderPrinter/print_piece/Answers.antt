use Rattle.{std.proofs.{Common.None, lemmas.Result.err_from_is_err_and}, bench_io.proofs.Texts.{WroteText-flushed, CutText-flushed}}
use Rattle.file_work.proofs.print.HeaderPrinter.print_piece.Goals as goal

pub returns-in_err-flush-clause-short : goal.returns-in_err-flush-clause-short
returns-in_err-flush-clause-short g c =
    let e = err_from_is_err_and c.from_residual-in_err-flush.result c.from_residual-in_err-flush.ensures.1 in
    rw e.1 (λ bytes h.
    CutText-flushed _ _ None _ _ _ c.put_piece.new.block c.in_err-flush.ensures.short (rw c.new-block.ensures at (c.in_ok-printed.ensures.text bytes h)))

pub returns-clause-text : goal.returns-clause-text
returns-clause-text g c = λ bytes h.
    WroteText-flushed _ _ None _ _ _ c.put_piece.new.block c.in_ok-flush.ensures.all (rw c.new-block.ensures at (c.in_ok-printed.ensures.text bytes h))
