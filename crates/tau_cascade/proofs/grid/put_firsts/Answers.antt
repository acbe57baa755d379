use Rattle.std.proofs.{Common.{◌≡◌, ℕ, ◌+◌, ◌-◌, ◌<◌, ◌≤◌, eqb, cond, List, length, take, arith, rules}, lemmas.{Grind.common_steps, Bool.Decides.nat_tests}}
use Rattle.{std.proofs.lemmas.List.Sums.{sum_by_push, sum_by-take-le}, lag_ring.specs.declared.{ring.Entry.Entry, window.Side.TheVariants.First}}
use Rattle.{lag_ring.specs.Bytes.weight_at, tau_cascade.proofs.Close.{ups, here, cut}}
use Rattle.tau_cascade.proofs.grid.put_firsts.Goals as goal

-- a bin more adds its weight at its place
module _ (levels low : ℕ) (bins : List Entry) (i p : ℕ) (inside : i < length bins) where
  abbrev e : Entry
  e = here levels bins i inside

  next : weight_at First 192 low p (take (i + 1) (ups levels bins i inside))
      ≡ weight_at First 192 low p (take i (ups levels bins i inside)) + cond (eqb (e.index + 192) (low + p)) e.a 0
  next = search (rules, arith, cut, sum_by_push)

  fits : e.index + 192 ≡ low + p → weight_at First 192 low p (take i (ups levels bins i inside)) + e.a ≤ weight_at First 192 low p (ups levels bins i inside)
  fits is =
      grind (arith, nat_tests, next, sum_by-take-le (λ (f : Entry). cond (eqb (f.index + 192) (low + p)) f.a 0) (ups levels bins i inside) (i + 1))

pub overflow_cast-window : goal.overflow_cast-window
overflow_cast-window c =
    let place : ℕ = c.saturating_sub-behind.result + 192 - c.saturating_sub-before.result in
    omega (
      arith,
      fits c.args.levels c.args.low c.args.bins.now c.loop-bin.bin-index place c.loop-bin-test.true (omega arith),
      c.requires.fit place (omega (arith, c.loop-bin.invariant.same)),
    )

pub overflow_add-window : goal.overflow_add-window
overflow_add-window c =
    let place : ℕ = c.saturating_sub-behind.result + 192 - c.saturating_sub-before.result in
    omega (
      arith,
      fits c.args.levels c.args.low c.args.bins.now c.loop-bin.bin-index place c.loop-bin-test.true (omega arith),
      c.requires.fit,
      c.loop-bin.invariant.have,
    )

pub loop-bin-preserved : goal.loop-bin-preserved
loop-bin-preserved c = record {
  have = λ p inside.
      let more = next c.args.levels c.args.low c.args.bins.now c.loop-bin.bin-index p c.loop-bin-test.true in
      grind (arith, common_steps, nat_tests, more, c.loop-bin.invariant.have p inside);
  same = omega (arith, c.loop-bin.invariant.same);
}
