use Rattle.{std.proofs.Common.{◌≤◌, ◌+◌, ◌-◌, slice_range}, tally_base.specs.declared.slot.Slot.TheVariants.Data, bench_io.specs.Inputs.OnlyReads}
use Rattle.command_work.{specs.Endings.span, proofs.Reading.InPieces}
use Rattle.command_work.proofs.job.read_file.Given as goal

-- what the reader makes of the bytes that it was given is written
abbrev pub invariant-pieces : goal.invariant-pieces
invariant-pieces g l =
    let r = g.J.Reader.Reader in
    record {
      order : l.used ≤ l.len;
      fits : l.len ≤ 8192;
      reads : OnlyReads Data (g.I.Inputs.state l.fn.inputs) (g.I.Inputs.state l.inputs);
      so_far : InPieces (g.J.Job.work l.fn.job) (g.J.Job.tells l.fn.job) (r.tells l.reader) (r.stands l.reader) (span g.I.Inputs g.O.Sink l.fn.inputs l.inputs l.fn.out l.out) (slice_range l.buffer l.used l.len);
    }

-- after the first piece none is empty
abbrev pub decreases-pieces : goal.decreases-pieces
decreases-pieces g l = g.J.Reader.Reader.room l.reader + (1 - (l.len - l.used))
