use Rattle.std.proofs.{Common.{◌≡◌, ℕ, ◌+◌, ◌≤◌, cond, eqb, rules, arith}, lemmas.{Bool.Decides.nat_tests, List.Sums.sum_by_push}}
use Rattle.lag_ring.specs.Cells.{added_at}
use Rattle.tau_cascade.proofs.pairing.add_each.Goals as goal

pub loop-at-preserved : goal.loop-at-preserved
loop-at-preserved g c =
    let inv = c.loop-at.invariant in
    let more : (p : ℕ) → added_at c.add.new.self p ≡ added_at c.loop-at.cells p + cond (eqb c.loop-at.at p) 1 0 = λ p. search (rules, sum_by_push) in
    let once : (p : ℕ) → added_at c.add.new.self p ≤ added_at c.args.cells.now p + 1 = λ p. grind (arith, nat_tests, more p, inv.once p, inv.behind p) in
    let behind : (p : ℕ) → c.loop-at.at + 1 ≤ p → added_at c.add.new.self p ≡ added_at c.args.cells.now p = λ p far. grind (arith, nat_tests, more p, inv.behind p) in
    search (rules, arith)
