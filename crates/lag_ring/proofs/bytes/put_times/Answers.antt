use Rattle.std.proofs.{Common.{◌≡◌, ◌+◌, ◌*◌, ◌<◌, ◌≤◌, ℕ, length, take, arith, rules}, lemmas.List.{take_more_set, Sums.sum_by_push}}
use Rattle.lag_ring.proofs.Rising.{all_push}
use Rattle.lag_ring.proofs.bytes.put_times.Goals as goal

pub loop-time-preserved : goal.loop-time-preserved
loop-time-preserved c =
    let inv = c.loop-time.invariant in
    let spot : ℕ = c.args.spot in
    let xs = c.loop-time.spots in
    let n = c.args.count + c.loop-time.time in
    let room : n < length xs = search (rules, arith) in
    let end : c.args.count + (c.loop-time.time + 1) ≡ n + 1 = omega arith in
    record {
      sums = λ f.
          let once : f spot * (c.loop-time.time + 1) ≡ f spot * c.loop-time.time + f spot = grind arith in
          rw (end, take_more_set xs n spot room) (omega (arith, once, inv.sums f, sum_by_push f (take n xs) spot));
      within = λ m upto all. rw (end, take_more_set xs n spot room) (all_push (λ s. s ≤ m) (take n xs) spot (inv.within m upto all) upto);
    }

pub returns-clause-within : goal.returns-clause-within
returns-clause-within c = λ m upto all.
    let end : c.loop-time.time ≡ c.args.times = search (rules, arith) in
    rw end at (c.loop-time.invariant.within m upto all)
