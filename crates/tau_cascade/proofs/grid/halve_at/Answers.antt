use Rattle.std.proofs.{Common.{◌≡◌, cond, ltb, get_or, ◌∙◌, ℕ, ◌+◌, ◌*◌, ◌++◌, drop, List, ◌-◌, ◌<◌, arith, rules}, lemmas.List.{places, get_or-take}}
use Rattle.tau_cascade.proofs.Places.{front_zero, mid_put}
use borrow.Rule.Slice.PartMut.{put_mid}
use Rattle.tau_cascade.proofs.grid.halve_at.Goals as goal

pub returns-clause-halves : goal.returns-clause-halves
returns-clause-halves c = λ p inside.
    let old = c.args.places.now in
    let half : ℕ = c.args.half in
    let off : ℕ = c.args.off in
    let to : List ℕ = c.halve_part.new.to in
    let back = front_zero old c.fill.new.self (2 * half) p (omega (arith, c.requires.room.0, c.told-places)) (c.fill.ensures.after (λ y same. same)) in
    let put = mid_put c.args.window.now to off half p (omega (arith, c.requires.room.1, c.told-window)) (search (rules, places)) in
    let front = get_or-take (off + half) (put_mid off (off + half - off) c.args.window.now to) p 0 in
    let there = c.copy_from_slice.new.self in
    let whole : get_or (there ++ drop (off + half) (c.fill.new.self ++ drop (2 * half) old)) p 0
    ≡ cond (ltb p (off + half)) (get_or there p 0) (get_or (c.fill.new.self ++ drop (2 * half) old) p 0) = search (rules, places) in
    let halves : (q : ℕ) → q < half → get_or to q 0 ≡ get_or old (2 * q) 0 + get_or old (2 * q + 1) 0 =
    λ q few. c.halve_part.ensures.halves q (search (rules, places)) ∙ search (rules, places) in
    let zero = c.requires.room.2 p (omega (arith, inside)) in
    whole ∙ rw (back, c.copy_from_slice.ensures.after) (search (rules, arith, front, put, zero, halves, c.requires.behind))

pub returns-clause-zeros : goal.returns-clause-zeros
returns-clause-zeros c = search (rules, places)
