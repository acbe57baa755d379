use Rattle.std.proofs.{Common.{◌∙◌, ◌+◌, arith}, lemmas.Simd.get_or-chunk}
use Rattle.tally_base.proofs.block.Block.groups_from.Goals as goal

pub returns-clause-groups : goal.returns-clause-groups
returns-clause-groups g c = λ i lt. get_or-chunk c.args.at 8 c.args.self.now.groups i 0 lt

pub returns-clause-markers : goal.returns-clause-markers
returns-clause-markers g c = λ i lt marker.
    get_or-chunk c.args.at 8 c.args.self.now.groups i 0 lt
    ∙ c.args.self.now.markers (c.args.at + i) (omega (arith, lt, c.requires)) marker
