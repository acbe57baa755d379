use Rattle.{std.proofs.Common.{◌≡◌, ◌+◌, ◌-◌, ◌*◌, ℕ, min, arith}, tally_base.specs.Settings.coincidence_view, coincidence.specs.Closing.lags_of}
use Rattle.coincidence.{specs.Closing.window_pairs, proofs.{LagPairs.{range-le, range-strip, strip-window}, Visits.{counts_on, room_left}}}
use Rattle.coincidence.proofs.lags.pair_window.Goals as goal

pub add_sums-requires-clause-room : goal.add_sums-requires-clause-room
add_sums-requires-clause-room g c = room_left _ _ _ _ _ _ _ _ _ c.loop-strip.invariant c.requires.room (λ at inside.
    let set = coincidence_view c.args.places.set in
    let base : ℕ = c.args.places.base in
    let least : ℕ = c.loop-strip.strip * 256 in
    let count : ℕ = min (set.reach - (base + least)) 256 in
    let so_far : min least (lags_of set base) ≡ least = omega arith in
    let f : ℕ → ℕ = window_pairs c.args.direction set at base c.args.window.now c.args.spots.now in
    rw (so_far, strip-window c.args.direction set at base least count c.byte_lag_sums-sums.result c.args.window.now c.args.spots.now (omega arith) (omega arith) c.byte_lag_sums-sums.ensures.sums)
    (omega (arith, range-strip f base least count, range-le f (base + 1) (least + count) (lags_of set base) (omega arith))))

pub loop-strip-preserved : goal.loop-strip-preserved
loop-strip-preserved g c =
    let set = coincidence_view c.args.places.set in
    let base : ℕ = c.args.places.base in
    let least : ℕ = c.loop-strip.strip * 256 in
    let count : ℕ = min (set.reach - (base + least)) 256 in
    let so_far : min least (lags_of set base) ≡ least = omega arith in
    let next : min ((c.loop-strip.strip + 1) * 256) (lags_of set base) ≡ least + count = omega arith in
    counts_on _ _ _ _ _ _ _ _ _ c.loop-strip.invariant _ _ _ _ c.add_sums.ensures (λ at inside. rw (
      next,
      so_far,
      strip-window c.args.direction set at base least count c.byte_lag_sums-sums.result c.args.window.now c.args.spots.now (omega arith) (omega arith) c.byte_lag_sums-sums.ensures.sums,
    ) (range-strip (window_pairs c.args.direction set at base c.args.window.now c.args.spots.now) base least count)) (omega (arith, next, so_far))
