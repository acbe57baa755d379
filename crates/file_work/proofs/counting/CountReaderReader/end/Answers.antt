use Rattle.{std.proofs.{Common.{arith, rules}, lemmas.Result.err_from_is_err_and}, file_work.proofs.Ends.{ends-refused, ends-written}}
use Rattle.file_work.proofs.counting.CountReaderReader.end.Goals as goal

pub returns-in_err-counts : goal.returns-in_err-counts
returns-in_err-counts g c = search (rules, arith, err_from_is_err_and, ends-refused)

pub returns : goal.returns
returns g c = search (rules, arith, ends-written)
