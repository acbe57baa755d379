use Rattle.{std.proofs.Common.{◌∙◌, ap, rules, arith, ◌++◌}, tally_base.{specs.Columns.{event_at, row, rows}, proofs.BlockRows.rows-copied}}
use Rattle.tally_base.proofs.block.Block.put_eight.Goals as goal

pub returns-clause-more : goal.returns-clause-more
returns-clause-more g c =
    let b = c.args.self.now in
    let l = c.requires.lanes in
    rows-copied b.places b.times b.marks c.args.places c.args.times c.args.marks _ _ _ c.len-start.result 8 c.args.front c.requires.front
    (search (rules, arith)) (search (rules, arith)) (search (rules, arith)) (omega (arith, l.0)) (omega (arith, l.2)) (omega (arith, l.1))
    c.copy_front.ensures c.copy_front-2.ensures c.copy_front-3.ensures
    ∙ ap (λ m. rows (event_at b) m ++ rows (row c.args.places c.args.times c.args.marks) c.args.front) c.len-start.ensures.count
