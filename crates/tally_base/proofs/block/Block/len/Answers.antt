use Rattle.{std.proofs.Common.sym, tally_base.{specs.Columns.row, proofs.BlockRows.length-rows}}
use Rattle.tally_base.proofs.block.Block.len.Goals as goal

pub returns-clause-value : goal.returns-clause-value
returns-clause-value g c = let b = c.args.self.now in sym (length-rows (row b.places b.times b.marks) b.len)
