use Rattle.{std.proofs.Common.{◌≡◌, ◌∙◌, ◌-◌, ◌<◌, ◌≤◌, ◌||◌, true, false, sym, rules, arith, nat_lt}, tally_base.specs.Columns.{code_at, count}}
use Rattle.tally_base.proofs.Floors.{back_step}
use Rattle.tally_base.proofs.block.Block.floor_after.Goals as goal

pub returns-then-moves : goal.returns-then-moves
returns-then-moves g c =
    let b = c.args.self.now in
    let some : 0 < c.back.at = search (rules, arith) in
    let is : (c.args.strict || nat_lt (code_at b (c.back.at - 1)) 256) ≡ true = search rules in
    sym (c.back.invariant.same ∙ back_step c.args.strict c.args.floor b c.back.at true some is)

pub back-preserved : goal.back-preserved
back-preserved g c =
    let b = c.args.self.now in
    let some : 0 < c.back.at = search (rules, arith) in
    let is : (c.args.strict || nat_lt (code_at b (c.back.at - 1)) 256) ≡ false = search rules in
    let less : c.back.at - 1 ≤ count b = search (rules, arith) in
    record { few = less; same = c.back.invariant.same ∙ back_step c.args.strict c.args.floor b c.back.at false some is }
