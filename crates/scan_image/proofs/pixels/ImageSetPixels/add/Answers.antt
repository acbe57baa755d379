use Rattle.{std.proofs.{Common.{◌+◌, ℕ, cond, refl, rules, arith, Some}, lemmas.Grind.common_steps}, scan_image.specs.ImageCounts.is_at}
use Rattle.scan_image.proofs.Cells.{raised_at}
use Rattle.scan_image.proofs.pixels.ImageSetPixels.add.Goals as goal

pub returns-in-Some-clause-follows : goal.returns-in-Some-clause-follows
returns-in-Some-clause-follows c = λ many is.
    let set = c.args.self.now in
    let column = c.in-Some.column in
    let row = c.in-Some.row in
    let more = c.args.more in
    let before : ℕ → ℕ → ℕ = λ x y. many (λ place dtime. is_at x y place) in
    rw c.in-Some.is (record {
      each = raised_at c.args.counts.now.cells.items set.width set.height column row c.cell_of.result _ more before (λ x y. before x y + cond (is_at x y (Some (column, row))) more 0) c.cell_of.ensures.place (search rules) (search rules) c.index_mut.ensures.value is.each (λ x y. refl);
      rest = grind (arith, common_steps, is.rest);
    })
