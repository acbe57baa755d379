use Rattle.{std.proofs.{Common.{rules, ◌≤◌, ℕ, List, bit_or, arith}, lemmas.Nat.{le_or_l, le_or_r}}, lag_ring.specs.{declared.ring.Entry.Entry, Bytes.IsLight}}
use Rattle.lag_ring.proofs.{Lists.all_join, Rising.all_weaker}
use Rattle.coincidence.proofs.closing.weight_bound_of.Goals as goal

lighter : (least most : ℕ) (es : List Entry) → least ≤ most → IsLight least es → IsLight most es
lighter least most es upto light = search (rules, arith, all_weaker)

pub returns-clause-light : goal.returns-clause-light
returns-clause-light c =
    let a : ℕ = c.weight_bound.result in
    let b : ℕ = c.weight_bound-2.result in
    let l : ℕ = c.weight_bound-3.result in
    let all : ℕ = bit_or (bit_or a b) l in
    let light : Entry → Type 0 = λ e. (e.a ≤ all) × (e.b ≤ all) in
    let front = lighter a all c.slices.result.0.now (omega (arith, le_or_l a b, le_or_l (bit_or a b) l)) c.weight_bound.ensures.light in
    let back = lighter b all c.slices.result.1.now (omega (arith, le_or_r a b, le_or_l (bit_or a b) l)) c.weight_bound-2.ensures.light in
    all_join light c.args.ring.now.entries c.args.later.now (rw c.slices.ensures.entries at (all_join light c.slices.result.0.now c.slices.result.1.now front back)) (lighter l all _ (le_or_r (bit_or a b) l) c.weight_bound-3.ensures.light)
