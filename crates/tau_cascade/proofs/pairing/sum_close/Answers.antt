use Rattle.{std.proofs.{Common.{◌≡◌, ℕ, ◌+◌, ◌-◌, ◌<◌, ◌≤◌, List, get_or, map, rules, arith}, lemmas.List.get_or-replicate}, tau_cascade.specs.Bins.raised}
use Rattle.tau_cascade.specs.Dense.{paired_from}
use Rattle.tau_cascade.proofs.pairing.sum_close.Goals as goal

-- what is put after so many sums
behind : (at' count skipped middle : ℕ) (one two : List ℕ) (f : ℕ → ℕ) → skipped + at' ≡ middle
    → ((p : ℕ) → p < at' → get_or one p 0 ≡ f (p + skipped + 1)) → ((p : ℕ) → p < at' → get_or two p 0 ≡ get_or one p 0)
    → ((i : ℕ) → i < count → get_or two (at' + i) 0 ≡ f (i + middle + 1)) → (p : ℕ) → p < at' + count → get_or two p 0 ≡ f (p + skipped + 1)
behind at' count skipped middle one two f is so_far left here p within =
    let place : at' ≤ p → at' + (p - at') ≡ p = λ from. omega arith in
    grind (arith, place, so_far p, left p, here (p - at'))

pub returns : goal.returns
returns g c =
    let a = c.args in
    let middle = c.min-middle.result in
    let parts : a.range.skipped + (middle - a.range.skipped) ≡ middle = omega (arith, c.min-middle.ensures, a.range.within.0) in
    let both = behind (middle - a.range.skipped) (a.range.last - middle) a.range.skipped middle c.turn.new.sums c.turn-2.new.sums
    (λ k. paired_from a.bins.start k (map (raised a.bins.levels) a.bins.list.now)) parts (λ q under. search (rules, arith, get_or-replicate)) c.turn-2.ensures.before (λ i under. search (rules, arith, get_or-replicate)) in
    record {
      sums = λ done p inside. both p (omega (arith, inside, c.min-middle.ensures, a.range.within.0));
      none = search (rules, arith);
      noted = search (rules, arith);
    }
