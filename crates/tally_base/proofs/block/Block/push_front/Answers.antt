use Rattle.{std.proofs.Common.{◌∙◌, ap, rules, arith, ◌++◌}, tally_base.{specs.Columns.{event_at, rows}, proofs.BlockRows.rows-copied}}
use Rattle.tally_base.proofs.block.Block.push_front.Goals as goal

pub returns-clause-more : goal.returns-clause-more
returns-clause-more g c =
    let b = c.args.self.now in
    let o = c.args.other.now in
    let n = c.len-start.result in
    let front = c.args.front in
    rows-copied b.places b.times b.marks o.places o.times o.marks _ _ _ n front front (omega arith)
    (search (rules, arith)) (search (rules, arith)) (search (rules, arith)) (search (rules, arith)) (search (rules, arith)) (search (rules, arith))
    c.copy_front.ensures c.copy_front-2.ensures c.copy_front-3.ensures
    ∙ ap (λ m. rows (event_at b) m ++ rows (event_at o) front) c.len-start.ensures.count
