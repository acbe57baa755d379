use Rattle.table_out.specs.Cube.{cube_printed}
use Rattle.table_out.proofs.cube.FlimCubePrints.line_of.Goals as goal

pub returns : goal.returns
unfolding cube_printed
returns c = λ h is.
    let cell = rw c.set.ensures at (c.cell.ensures h is) in
    rw cell at (rw c.set.ensures at c.triple_line.ensures)
