use Rattle.std.proofs.lemmas.Simd.{get_or-chunk}
use Rattle.tally_base.proofs.block.Block.marks_from.Goals as goal

pub returns-clause-marks : goal.returns-clause-marks
returns-clause-marks g c = λ i lt. get_or-chunk c.args.at 8 c.args.self.now.marks i 0 lt
