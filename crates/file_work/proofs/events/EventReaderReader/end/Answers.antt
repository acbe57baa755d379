use Rattle.{std.proofs.{Common.{Ok, sym, ap, arith, rules}, lemmas.Result.err_from_is_err_and}, tally_base.specs.Faults.fault_in}
use Rattle.{record_stream.specs.Standing.how_of, file_work.proofs.Ends.ends-listed}
use Rattle.file_work.proofs.events.EventReaderReader.end.Goals as goal

pub returns-in_err-end_lines : goal.returns-in_err-end_lines
returns-in_err-end_lines g c = search (rules, arith, err_from_is_err_and, ends-listed)

pub returns : goal.returns
returns g c = λ bytes h.
    rw c.end_lines.ensures.untouched (ends-listed (how_of c.args.self.stream) bytes _ c.end_lines.result
    (Ok (tt {0})) (c.end_lines.ensures.answer bytes h.streamed) (sym (ap fault_in c.in_ok-end_lines.was)))
