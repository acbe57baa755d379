use Rattle.{std.{proofs.Common.{ℕ, ◌+◌, ◌*◌, ◌≤◌, ◌<◌, ◌≡◌, List, length, get_or, arith, rules}, specs.List.sum_by}, lag_ring.specs.declared.ring.Entry.Entry}
use Rattle.{lag_ring.{specs.{declared.window.Side.TheVariants.Second, Bytes.{product_at, IsLight}}, proofs.Rising.all_weaker}, tau_cascade.specs.Dense.placed}
use Rattle.tau_cascade.proofs.Close.{products_few, low_all}
use Rattle.tau_cascade.proofs.laid.sum_laid.Goals as goal

-- what is no more than a number is no more than a greater one
module _ {heaviest : ℕ} (window : List ℕ) (list : List Entry)
    (all : (heaviest < 2048) × IsLight heaviest list × ((p : ℕ) → p < 8640 → get_or window p 0 ≤ heaviest)) (most : ℕ) (upto : heaviest ≤ most) where
  all_light : ((p : ℕ) → p < 8640 → get_or window p 0 ≤ most) × IsLight most list
  all_light = (λ p inside. omega (arith, all.2 p inside), search (rules, arith, all_weaker, all.1))

  few_all : (places : List ℕ) (from : ℕ) → length window ≡ 8640 → sum_by (product_at Second window 0 from) (placed list places) ≤ most * most * length list
  few_all places from long = products_few window places list most from (low_all window most long all_light.0) all_light.1

pub sum_light-more-requires : goal.sum_light-more-requires
sum_light-more-requires g c =
    (omega (arith, c.requires.places.0.room 0), (∣ (c.args.heaviest, omega (arith, c.requires.light.0), c.if-light.true, c.requires.light.2, c.requires.light.1) ∣₁, c.requires.places.0))

pub add_laid-requires : goal.add_laid-requires
add_laid-requires g c =
    let few = λ (q : ℕ). few_all _ c.args.list.now c.requires.light 2047 (omega (arith, c.requires.light.0)) c.args.places.now (c.args.from + q) c.told-window in (
      omega (arith, c.requires.places.0.room 0),
      (search (rules, arith), λ q inside. omega (arith, few q, c.sum_light-more.ensures q inside, c.requires.places.1 q inside)),
    )

pub sum_heavy-requires : goal.sum_heavy-requires
sum_heavy-requires g c =
    (omega (arith, c.requires.places.0.room 0), (all_light _ c.args.list.now c.requires.light 2047 (omega arith), (c.requires.places.0, c.requires.places.1)))

pub returns-then-light-clause-within : goal.returns-then-light-clause-within
returns-then-light-clause-within g c = λ q inside.
    let few = few_all _ c.args.list.now c.requires.light 2047 (omega (arith, c.requires.light.0)) c.args.places.now (c.args.from + q) c.told-window in
    omega (arith, few, c.sum_light-more.ensures q inside, c.add_laid.ensures q inside)

pub returns-else-light-clause-within : goal.returns-else-light-clause-within
returns-else-light-clause-within g c = λ q inside.
    let few = few_all _ c.args.list.now c.requires.light 2047 (omega (arith, c.requires.light.0)) c.args.places.now (c.args.from + q) c.told-window in
    omega (arith, few, c.sum_heavy.ensures q inside)
