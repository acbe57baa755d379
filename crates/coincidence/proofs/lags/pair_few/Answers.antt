use Rattle.{std.proofs.Common.{◌+◌, ◌*◌, ◌≤◌, ◌++◌, length, arith, refl, length-append}, coincidence.specs.Stretch.{view_of, lags_in}}
use Rattle.coincidence.proofs.{LagPairs.{few-steps, lags_parts}, Visits.{counts_on, room_left}}
use Rattle.coincidence.proofs.lags.pair_few.Goals as goal

pub pair_each-requires : goal.pair_each-requires
pair_each-requires g c =
    let s = c.args.stretch in
    record {
      sized = c.requires.room.sized;
      fits = λ at inside. rw c.lags-count.ensures (omega (arith, c.requires.room.fits at inside, lags_parts c.args.side (view_of s) at s.places.base (lags_in s) s.front.now s.back.now s.own.now s.later.now));
    }

pub pair_each-requires-2 : goal.pair_each-requires-2
pair_each-requires-2 g c =
    let s = c.args.stretch in
    room_left _ _ _ _ _ _ _ _ _ c.pair_each.ensures c.requires.room
    (λ at inside. rw c.lags-count.ensures (omega (arith, lags_parts c.args.side (view_of s) at s.places.base (lags_in s) s.front.now s.back.now s.own.now s.later.now)))

pub pair_each-requires-3 : goal.pair_each-requires-3
pair_each-requires-3 g c =
    let s = c.args.stretch in
    room_left _ _ _ _ _ _ _ _ _ (counts_on _ _ _ _ _ _ _ _ _ c.pair_each.ensures _ _ _ (length s.front.now * length s.later.now + length s.back.now * length s.later.now) c.pair_each-2.ensures (λ at inside. refl) (omega arith)) c.requires.room
    (λ at inside. rw c.lags-count.ensures (omega (arith, lags_parts c.args.side (view_of s) at s.places.base (lags_in s) s.front.now s.back.now s.own.now s.later.now)))

pub returns : goal.returns
returns g c =
    let s = c.args.stretch in
    let few : length s.front.now + length s.back.now + length s.own.now ≤ lags_in s = omega (arith, c.requires.few, length-append (s.front.now ++ s.back.now) s.own.now, length-append s.front.now s.back.now) in
    counts_on _ _ _ _ _ _ _ _ _ (counts_on _ _ _ _ _ _ _ _ _ c.pair_each.ensures _ _ _ _ c.pair_each-2.ensures (λ at inside. refl) (omega arith)) _ _ _ _ c.pair_each-3.ensures
    (λ at inside. rw c.lags-count.ensures (lags_parts c.args.side (view_of s) at s.places.base (lags_in s) s.front.now s.back.now s.own.now s.later.now)) (few-steps (length s.later.now) (length s.front.now) (length s.back.now) (length s.own.now) _ few)
