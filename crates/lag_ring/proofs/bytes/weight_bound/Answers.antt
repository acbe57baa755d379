use Rattle.std.proofs.{Common.{◌<◌, ◌≤◌, get_or, take, bit_or, ℕ, arith}, lemmas.{Nat.{le_or_l, le_or_r}, List.take_more}}
use Rattle.lag_ring.{specs.declared.ring.Entry.Entry, proofs.Rising.{all_push, all_weaker}}
use Rattle.lag_ring.proofs.bytes.weight_bound.Goals as goal

pub loop-entry-preserved : goal.loop-entry-preserved
loop-entry-preserved c =
    let none : Entry = record { index = 0; a = 0; b = 0 } in
    let es = c.args.entries.now in
    let e = get_or es c.loop-entry.entry-index none in
    let was : ℕ = c.loop-entry.most in
    let here : ℕ = bit_or e.a e.b in
    let next : ℕ = bit_or was here in
    let kept = all_weaker (λ f. (f.a ≤ was) × (f.b ≤ was)) (λ f. (f.a ≤ next) × (f.b ≤ next)) (λ f light. (omega (arith, light.0, le_or_l was here), omega (arith, light.1, le_or_l was here))) (take c.loop-entry.entry-index es) c.loop-entry.invariant.1 in
    let some : 0 < next = omega (arith, c.loop-entry.invariant.0, le_or_l was here) in
    rw (take_more es c.loop-entry.entry-index none c.loop-entry-test.true)
    (some, all_push (λ f. (f.a ≤ next) × (f.b ≤ next)) (take c.loop-entry.entry-index es) e kept (omega (arith, le_or_l e.a e.b, le_or_r was here), omega (arith, le_or_r e.a e.b, le_or_r was here)))
