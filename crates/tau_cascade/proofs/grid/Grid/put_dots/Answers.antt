use Rattle.std.proofs.{Common.{rules, ◌≡◌, ℕ, ◌+◌, ◌-◌, ◌*◌, ◌/◌, ◌≤◌, List, length, refl, get_or, take, drop, arith}, Math.Nat.mul-le-mul}
use Rattle.std.{proofs.lemmas.List.{get_or_past, length-take, length-take-le, length-drop, get_or-take, Edits.fill_by_more}, specs.List.sum_by}
use Rattle.{std.specs.List.range_with_len, lag_ring.proofs.Sums.part-at, tau_cascade.{specs.Grid.{product, dots}, proofs.Dots.range_agree}}
use Rattle.tau_cascade.proofs.grid.Grid.put_dots.Goals as goal

-- no place of a part has more than those of a part around it
part_few : (window : List ℕ) (from n low m most : ℕ) → low ≤ from → from + n ≤ low + m → ((p : ℕ) → get_or (take m (drop low window)) p 0 ≤ most)
    → (i : ℕ) → get_or (take n (drop from window)) i 0 ≤ most
part_few window from n low m most after upto few i =
    let at : low + (from - low + i) ≡ from + i = omega arith in
    search (rules, arith, part-at, get_or_past, length-take)

-- the products of two parts
dot_parts : (window seconds : List ℕ) (from n m : ℕ) → m ≤ n → sum_by (product (take n (drop from window)) (take m seconds)) (range_with_len 0 m)
    ≡ sum_by (λ q. get_or window (from + q) 0 * get_or seconds q 0) (range_with_len 0 m)
dot_parts window seconds from n m fit = range_agree _ _ m (λ q inside. rw (part-at window from q n (omega arith), get_or-take m seconds q 0 inside) refl)

pub dot_light-requires-clause-light : goal.dot_light-requires-clause-light
dot_light-requires-clause-light c =
    let from : ℕ = 192 - (c.loop-p.p + c.args.range.skipped + 1) in
    let len : ℕ = 16 * ((c.args.self.now.len + 16 - 1) / 16) in
    let near = part_few c.args.window.now from (from + len - from) (192 - c.args.range.last) (192 + len - (192 - c.args.range.last)) c.most_of.result
    (omega (arith, c.loop-p-test.true)) (omega (arith, c.loop-p-test.true, c.args.range.within)) c.most_of.ensures in
    ∣ (_, c.if-light.true, λ i. mul-le-mul (omega (arith, near i, c.from.ensures)) (omega (arith, c.most_of-2.ensures i, c.from-2.ensures))) ∣₁

pub loop-p-preserved : goal.loop-p-preserved
loop-p-preserved c =
    let window : List ℕ = c.args.window.now in
    let from : ℕ = 192 - (c.loop-p.p + c.args.range.skipped + 1) in
    let len : ℕ = 16 * ((c.args.self.now.len + 16 - 1) / 16) in
    let parts = dot_parts window c.args.self.now.seconds from (from + len - from) len (omega arith) in
    let long : length (take (from + len - from) (drop from window)) ≡ len = search (rules, arith, length-take-le, length-drop) in
    let here : c.from-in-loop-p.result ≡ dots window from c.args.self.now.seconds len = search (rules, arith, parts, long) in
    search (rules, arith, here, fill_by_more)
