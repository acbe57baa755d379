use Rattle.{std.proofs.Common.{ℕ, ◌+◌, ◌-◌, get_or, arith, rules}, tau_cascade.proofs.Close.{row_few, low_all}}
use Rattle.tau_cascade.proofs.laid.sum_heavy.Goals as goal

pub add_laid-requires : goal.add_laid-requires
add_laid-requires g c = (
  omega (arith, c.requires.places.0.room 0),
  (
    search (rules, arith),
    λ q inside.
        let i : ℕ = c.loop-i.i in
        let n : ℕ = get_or c.args.places.now i 0 + g.row.N - get_or c.args.places.now i 0 in
        let few = row_few c.args.window.now c.args.places.now c.args.list.now i c.args.from c.loop-i-test.true c.requires.places.0.all q n (8640 - c.args.from)
        (omega (arith, inside)) (omega (arith, c.requires.places.0.room i)) 2047
        (low_all c.args.window.now 2047 c.told-window c.requires.light.0) c.requires.light.1 in
        omega (arith, few, c.loop-i.invariant q inside, c.requires.places.1 q inside, c.loop-i-test.true),
  ),
)
