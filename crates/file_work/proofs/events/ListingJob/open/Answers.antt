use Rattle.{std.proofs.Common.{[], ap}, bench_io.proofs.Bytes.Wrote-nil, command_work.proofs.RestEnds.{refused-none, opens-wrote}}
use Rattle.file_work.{specs.FileOutcomes.{listing, lists}, proofs.Ends.lines_of-none}
use Rattle.file_work.proofs.events.ListingJob.open.Goals as goal

pub returns-clause-opens : goal.returns-clause-opens
returns-clause-opens g c = opens-wrote (Unit {0}) (lists (listing c.args.header.now)) ⊥ _ _ tt [] (lines_of-none _) (refused-none _) (Wrote-nil _)

pub returns-clause-tells : goal.returns-clause-tells
returns-clause-tells g c = ap lists c.new-stream.ensures.how

pub returns-clause-stands : goal.returns-clause-stands
returns-clause-stands g c = record { going = c.new-stream.ensures.unrefused; streamed = c.new-stream.ensures.empty }
