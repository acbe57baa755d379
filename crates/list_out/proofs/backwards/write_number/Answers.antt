use Rattle.std.proofs.{Common.arith, lemmas.Fmt.length-decimal-le}
use Rattle.list_out.proofs.backwards.write_number.Goals as goal

pub write_digits-requires : goal.write_digits-requires
write_digits-requires c = (omega (arith, length-decimal-le 20 c.args.number (omega arith) (omega arith) c.ranges.number.fits, c.requires.0), c.requires.1)

pub returns-clause-start : goal.returns-clause-start
returns-clause-start c =
    let digits = length-decimal-le 20 c.args.number (omega arith) (omega arith) c.ranges.number.fits in
    (omega (arith, c.write_digits.ensures.start), omega (arith, digits, c.write_digits.ensures.start))
