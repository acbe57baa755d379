use Rattle.{std.proofs.Common.{[], arith}, bench_io.proofs.Texts.WroteText-none, file_work.specs.CountLaws.counts-clear}
use Rattle.file_work.proofs.counting.CountingJob.open.Goals as goal

pub returns-clause-opens : goal.returns-clause-opens
returns-clause-opens g c = (counts-clear [] (omega arith), WroteText-none _ _)

pub returns-clause-stands : goal.returns-clause-stands
returns-clause-stands g c = record { counted = c.new-counter.ensures.start; few = omega arith }
