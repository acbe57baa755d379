use Rattle.std.{proofs.{Common.{◌+◌, ◌<◌, arith, rules}, Props.props, Math.Logic.∥∥₁_elim}, specs.List.{AllByRecursion, AllByRecursion-prop}}
use Rattle.{lag_ring.{specs.declared.ring.Entry.Entry, proofs.Rising.all_weaker}, coincidence.proofs.{Visits.{counts_on, room_left}, Shut.{both_fit, before}}}
use Rattle.coincidence.proofs.{Shut.{can_close, closes, may_fit, cells_alone, cells_shut}, Together.{ring_alone, ring_shut, place_left}}
use Rattle.coincidence.proofs.pairing.close.Goals as goal

pub pair_inside-requires-clause-both : goal.pair_inside-requires-clause-both
pair_inside-requires-clause-both g c = ∥∥₁_elim (can_close _ c.args.pairing.now _ c.requires.stands) (hlevel props) (λ w. both_fit _ _ _ _ _ w.2)

pub pair_inside-requires-clause-room : goal.pair_inside-requires-clause-room
pair_inside-requires-clause-room g c = ∥∥₁_elim (can_close _ c.args.pairing.now _ c.requires.stands) (hlevel props)
    (λ w. let room = may_fit _ _ _ _ _ w.2 in record { sized = room.sized; fits = λ at inside. omega (arith, room.fits at inside) })

pub append-requires-clause-after : goal.append-requires-clause-after
append-requires-clause-after g c =
    ∥∥₁_elim (can_close _ c.args.pairing.now _ c.requires.stands) (AllByRecursion-prop (λ (e : Entry). e.index < c.args.bin.now.weights.index) (λ e. hlevel props) _) (λ w. before _ _ _ _ _ w.2)

pub append-requires-clause-room : goal.append-requires-clause-room
append-requires-clause-room g c = ∥∥₁_elim (can_close _ c.args.pairing.now _ c.requires.stands) (hlevel props)
    (λ w. room_left _ _ _ _ _ _ _ _ _ c.pair_inside.ensures (may_fit _ _ _ _ _ w.2) (λ at inside. omega arith))

pub append-requires-clause-place : goal.append-requires-clause-place
append-requires-clause-place g c = ∥∥₁_elim (can_close _ c.args.pairing.now _ c.requires.stands) (hlevel props)
    (λ w. place_left _ _ _ _ _ w.2 c.args.set.now.some_reach.0)

pub returns-then-saturating_sub-from : goal.returns-then-saturating_sub-from
returns-then-saturating_sub-from g c =
    let far : AllByRecursion (λ (e : Entry). e.index + c.args.set.now.reach < c.args.bin.now.weights.index) c.args.pairing.now.ring.entries = search (rules, arith, all_weaker) in
    closes _ _ _ _ _ _ (λ closed xs can. (
      rw c.restart.ensures.alone (ring_alone _ _ _ _ _ can c.args.set.now.some_reach.0 far),
      cells_alone _ _ _ _ _ can _ _ _ far c.pair_inside.ensures,
    )) c.pair_inside.ensures.spends.steps

pub returns-else-saturating_sub-from : goal.returns-else-saturating_sub-from
returns-else-saturating_sub-from g c = closes _ _ _ _ _ _ (λ closed xs can. (
  rw c.append.ensures.kept (ring_shut _ _ _ closed xs can c.args.set.now.some_reach.0),
  cells_shut _ _ _ _ _ can _ _ _ (counts_on _ _ _ _ _ _ _ _ _ c.pair_inside.ensures _ _ _ _ c.append.ensures.counts (λ at inside. omega arith) (omega arith)),
)) (omega (arith, c.pair_inside.ensures.spends.steps, c.append.ensures.counts.spends.steps))
