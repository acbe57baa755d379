use Rattle.{std.proofs.Common.{sym, ◌∙◌}, file_work.proofs.Ends.{no_items, seen-nil}}
use Rattle.file_work.proofs.print.HeaderPrinter.new.Goals as goal

pub returns-clause-start : goal.returns-clause-start
returns-clause-start c =
    record { read = c.new.ensures.start; taken = c.new.ensures.taken; body = λ items tag part shows. no_items items _ (sym shows ∙ seen-nil) }
