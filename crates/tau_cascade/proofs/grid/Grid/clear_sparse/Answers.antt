use Rattle.std.proofs.{Common.{◌≡◌, ◌*◌, ◌<◌, ◌≤◌, ltb, true, false, length, take, rules, arith, refl}, lemmas.{Bool.Decides.nat_tests, List.length-take-le}}
use Rattle.tau_cascade.{specs.Bins.merged_all, proofs.{Gridded.filled_few, Places.sound}}
use Rattle.tau_cascade.proofs.grid.Grid.clear_sparse.Goals as goal

pub returns-else-self-from-clause-dense : goal.returns-else-self-from-clause-dense
returns-else-self-from-clause-dense c = λ es is.
    let g = c.args.self.now in
    let within = (sound g (search rules) (search rules) c.requires).0 in
    let long : length (take g.len g.firsts) ≡ g.len = length-take-le g.len g.firsts (search (rules, arith)) in
    let count = (rw long at c.count_filled-count.ensures) in
    elim (ltb 0 g.len) as (λ b. ltb 0 g.len ≡ b → g.len ≤ 8 * length (merged_all es)) [
      | true ↦ λ some. omega (arith, count, filled_few g es g.len within (is.on (grind (arith, nat_tests, some))), c.if-self-from.false)
      | false ↦ λ none. grind (arith, nat_tests, none)
    ] refl
