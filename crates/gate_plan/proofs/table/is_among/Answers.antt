use Rattle.std.proofs.{Common.arith, lemmas.{Bool.Decides.nat_tests, Nat.Bits.bit_at_above}}
use Rattle.gate_plan.proofs.table.is_among.Goals as goal

pub returns-else-input-lt128 : goal.returns-else-input-lt128
returns-else-input-lt128 c = rw (bit_at_above c.args.inputs 128 c.args.input c.ranges.inputs.fits (omega (arith, c.if-input-lt128.false))) (grind (arith, nat_tests))
