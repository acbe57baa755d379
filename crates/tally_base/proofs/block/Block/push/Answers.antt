use Rattle.{std.proofs.Common.{◌∙◌, ◌++◌, ◌∷◌, [], ap, refl, arith, rules}, tally_base.{specs.Columns.{row, rows}, proofs.BlockRows.rows-push}}
use Rattle.tally_base.proofs.Sorted.{none-push}
use Rattle.tally_base.proofs.block.Block.push.Goals as goal

pub returns-clause-more : goal.returns-clause-more
returns-clause-more g c =
    let b = c.args.self.now in
    rows-push b.places b.times b.marks c.len-at.result _ _ c.joined.result c.code_of.result c.dtime_of.result c.args.e.now (search (rules, arith)) (search (rules, arith)) (search (rules, arith)) c.joined.ensures (search (rules, arith)) c.code_of.ensures.byte refl refl c.code_of.ensures.value c.dtime_of.ensures
    ∙ ap (λ n. rows (row b.places b.times b.marks) n ++ c.args.e.now ∷ []) c.len-at.ensures.count

pub invariant_of-self-clause-markers : goal.invariant_of-self-clause-markers
invariant_of-self-clause-markers g c = let b = c.args.self.now in none-push b.marks b.groups b.sorted c.len-at.result c.joined.result (omega (arith, b.some, c.len-at.ensures.count)) b.markers
