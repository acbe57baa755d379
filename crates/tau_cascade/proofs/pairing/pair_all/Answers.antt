use Rattle.{std.proofs.{Common.{◌≡◌, ◌-◌, get_or, ℕ, ◌+◌, ◌^◌, ◌/◌, ◌<◌, ◌≤◌, arith, map}, Math.Nat.div-le_self}, tau_cascade.specs.Bins.raised}
use Rattle.tau_cascade.{specs.Dense.paired_from, proofs.{Close.zeros_at, Passes.{spaced-raised, spaced_nearer, paired_apart}}}
use Rattle.tau_cascade.proofs.pairing.pair_all.{Goals.After-sum_all, Given.Over}
use Rattle.tau_cascade.proofs.pairing.pair_all.Goals as goal

pub returns-then-apart-levels-clause-cells : goal.returns-then-apart-levels-clause-cells
returns-then-apart-levels-clause-cells g c = λ p inside.
    let a = c.args in
    let up = map (raised a.bins.levels) a.bins.list.now in
    let far : a.range.last + 1 ≤ a.bins.apart / 2 ^ a.bins.levels = omega (arith, c.if-apart-levels.true, c.from.ensures) in
    let some : 0 < a.bins.apart = omega (arith, far, div-le_self a.bins.apart (2 ^ a.bins.levels)) in
    let spaced = spaced_nearer _ (a.range.last + 1) up far (spaced-raised a.bins.apart a.bins.levels a.bins.list.now (c.args.bins.spaced some)) in
    rw (paired_apart a.range.last (p + a.range.skipped + 1) a.bins.start up (omega (arith, inside)) spaced) (omega arith)

pub sum_all-requires-clause-zeros : goal.sum_all-requires-clause-zeros
sum_all-requires-clause-zeros g c = (λ p inside. omega (arith, zeros_at 128 p, c.requires.fits p inside), zeros_at 128)

-- what was summed
summed : (g : Over) (c : After-sum_all g) (p : ℕ) → p < c.args.range.last - c.args.range.skipped
    → get_or c.sum_all.new.sums p 0 ≡ paired_from c.args.bins.start (p + c.args.range.skipped + 1) (map (raised c.args.bins.levels) c.args.bins.list.now)
summed g c p inside = c.sum_all.ensures.sums p inside

pub add_each-requires-clause-fits : goal.add_each-requires-clause-fits
add_each-requires-clause-fits g c = λ p inside. rw (summed g (goal.at.add_each-requires-clause-fits g c).After-sum_all p inside) (c.requires.fits p inside)

pub returns-clause-cells : goal.returns-clause-cells
returns-clause-cells g c = λ p inside. rw (← summed g (goal.at.returns-clause-cells g c).After-sum_all p inside) (c.add_each.ensures.cells p inside)
