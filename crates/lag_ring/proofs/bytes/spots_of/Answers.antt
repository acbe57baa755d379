use Rattle.std.proofs.{Common.{rules, refl, ◌-◌, ◌*◌, ◌≤◌, ℕ, arith}, Math.Seq.take-length, lemmas.List.Sums.{sum_by_more, sum_by_more_le}}
use Rattle.{std.proofs.lemmas.Grind.common_steps, lag_ring.{specs.{declared.ring.Entry.Entry, Bytes.weight_of}, proofs.Lists.each_at}}
use Rattle.lag_ring.proofs.bytes.spots_of.Goals as goal

pub loop-entry-preserved : goal.loop-entry-preserved
loop-entry-preserved c =
    let none : Entry = record { index = 0; a = 0; b = 0 } in
    let inv = c.loop-entry.invariant in
    let one = c.put_spot-count.ensures in
    let es = c.args.entries.now in
    let i : ℕ = c.loop-entry.entry-index in
    record {
      sums = λ f.
          let more = sum_by_more (λ (e : Entry). f (e.index - c.args.low) * weight_of c.args.side e) es i none c.loop-entry-test.true in
          let put = (rw c.weight.ensures at (one.sums f)) in
          omega (arith, more, put, inv.sums f);
      len =
          let more = sum_by_more (weight_of c.args.side) es i none c.loop-entry-test.true in
          omega (arith, more, one.len, inv.len, c.weight.ensures);
      within = λ n all. one.within n (each_at (λ (e : Entry). e.index - c.args.low ≤ n) es i none c.loop-entry-test.true all) (inv.within n all);
    }

pub put_spot-count-requires : goal.put_spot-count-requires
put_spot-count-requires c = search (rules, arith, sum_by_more_le)

pub loop-entry-init : goal.loop-entry-init
loop-entry-init c = record { sums = λ f. refl; len = refl; within = λ n all. tt }

pub returns-clause-sums : goal.returns-clause-sums
returns-clause-sums c = grind (arith, common_steps, take-length)

pub returns-clause-within : goal.returns-clause-within
returns-clause-within c = λ n all. rw (c.truncate.ensures.items, c.from-filled.ensures.0) (c.loop-entry.invariant.within n all)
