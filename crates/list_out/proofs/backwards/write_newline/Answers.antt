use Rattle.std.proofs.{Common.{refl, arith}, Math.ListN.drop_of_length-le}
use Rattle.list_out.proofs.backwards.write_newline.Goals as goal

pub returns-clause-written : goal.returns-clause-written
returns-clause-written c = rw (c.write_text.ensures.written, drop_of_length-le c.args.line.now {i = 96} (omega (arith, c.told-line))) refl
