use Rattle.{std.proofs.Common.{◌+◌, ◌++◌, eqb, cond, arith}, lag_ring.{specs.{declared.ring.Entry.Entry, Bytes.weight_of}, proofs.Lists.{all_front, all_back}}}
use Rattle.coincidence.proofs.LagPairs.{early-enough, three_sums}
use Rattle.coincidence.proofs.lags.fill.Goals as goal

pub put_side-requires-clause-early : goal.put_side-requires-clause-early
put_side-requires-clause-early c =
    let s = c.args.stretch in
    rw c.from-top.ensures (early-enough s.places.base s.front.now (omega (arith, s.places.within, s.places.set.some_reach.1)) (all_front _ s.front.now s.back.now (all_front _ (s.front.now ++ s.back.now) s.own.now s.window.0.early')))

pub put_side-requires-2-clause-early : goal.put_side-requires-2-clause-early
put_side-requires-2-clause-early c =
    let s = c.args.stretch in
    rw c.from-top.ensures (early-enough s.places.base s.back.now (omega (arith, s.places.within, s.places.set.some_reach.1)) (all_back _ s.front.now s.back.now (all_front _ (s.front.now ++ s.back.now) s.own.now s.window.0.early')))

pub put_side-requires-3-clause-early : goal.put_side-requires-3-clause-early
put_side-requires-3-clause-early c =
    let s = c.args.stretch in
    rw c.from-top.ensures (early-enough s.places.base s.own.now (omega (arith, s.places.within, s.places.set.some_reach.1)) (all_back _ (s.front.now ++ s.back.now) s.own.now s.window.0.early'))

pub returns-clause-have : goal.returns-clause-have
returns-clause-have c = λ p at.
    let s = c.args.stretch in
    omega (
      arith,
      rw c.from-top.ensures at (c.put_side.ensures.have p at),
      rw c.from-top.ensures at (c.put_side-2.ensures.have p (omega (arith, at, c.put_side.ensures.same))),
      rw c.from-top.ensures at (c.put_side-3.ensures.have p (omega (arith, at, c.put_side.ensures.same, c.put_side-2.ensures.same))),
      three_sums (λ (e : Entry). cond (eqb (e.index + (s.places.base + 4096)) (s.places.low + p)) (weight_of c.args.side e) 0) s.front.now s.back.now s.own.now,
    )
