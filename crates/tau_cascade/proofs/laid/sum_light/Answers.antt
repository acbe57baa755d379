use Rattle.std.proofs.{Common.{ℕ, ◌+◌, ◌-◌, ◌*◌, ◌≤◌, length, get_or, arith, rules}, Props.props, Math.{Logic.∥∥₁_elim, Nat.mul-le-mul_left}}
use Rattle.{lag_ring.proofs.Lists.each_at, tau_cascade.proofs.Close.{no_bin, row_few, low_all}}
use Rattle.tau_cascade.proofs.laid.sum_light.Goals as goal

pub overflow_cast-list : goal.overflow_cast-list
overflow_cast-list g c = ∥∥₁_elim c.requires.light (hlevel props) (λ w.
    let one = each_at (λ f. (f.a ≤ w.0) × (f.b ≤ w.0)) c.args.list.now c.loop-i.i no_bin c.loop-i-test.true w.4 in
    omega (arith, one.1, w.1))

pub add_lanes-sums-requires : goal.add_lanes-sums-requires
add_lanes-sums-requires g c = (
  omega (arith, c.requires.places.room 0),
  (
    (c.loop-i.invariant.same, search (rules, arith)),
    λ q inside.
        ∥∥₁_elim c.requires.light (hlevel props) (λ w.
        let i : ℕ = c.loop-i.i in
        let n : ℕ = get_or c.args.places.now i 0 + g.row.N - get_or c.args.places.now i 0 in
        let few = row_few c.args.window.now c.args.places.now c.args.list.now i c.args.from c.loop-i-test.true c.requires.places.all q n (8640 - c.args.from)
        (omega (arith, inside)) (omega (arith, c.requires.places.room i)) w.0 (low_all c.args.window.now w.0 c.told-window w.3) w.4 in
        let all : w.0 * w.0 * (i + 1) ≤ w.0 * w.0 * length c.args.list.now = mul-le-mul_left (w.0 * w.0) (omega (arith, c.loop-i-test.true)) in
        omega (arith, few, all, w.2, c.loop-i.invariant.sums q inside)),
  ),
)
