use Rattle.{std.proofs.{Common.{append-nil, arith}, Math.ListN.drop_of_length-le}, list_out.specs.Lines.event_text}
use Rattle.list_out.proofs.event.write_line.Goals as goal

pub returns-clause-written : goal.returns-clause-written
returns-clause-written c = rw (c.write_event.ensures.written, drop_of_length-le c.args.line.now {i = 96} (omega (arith, c.told-line)))
    (append-nil (event_text c.args.event.now c.args.late))
