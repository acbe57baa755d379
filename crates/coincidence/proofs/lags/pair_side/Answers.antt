use Rattle.{std.proofs.{Common.{◌≤◌, ◌<◌, ◌+◌, ◌-◌, ℕ, length, arith, rules}, lemmas.List.get_or-replicate}, lag_ring.specs.declared.ring.Entry.Entry}
use Rattle.{lag_ring.proofs.{Rising.all_weaker, Sums.light-at}, coincidence.{specs.Stretch.{reached, view_of}, proofs.LagPairs.{near-low, window-lags}}}
use Rattle.coincidence.proofs.Visits.{room_as, counts_as}
use Rattle.coincidence.proofs.lags.pair_side.Goals as goal

pub fill-requires : goal.fill-requires
fill-requires g c =
    let s = c.args.stretch in
    record { fit = λ p inside. omega (arith, get_or-replicate {A = ℕ} 8192 p 0 0 inside, s.window.0.weighed.1, light-at c.args.side (s.places.base + 4096) s.places.low p s.places.most (reached s) s.window.1 s.window.0.light) }

pub spots_of-spots-requires-clause-near : goal.spots_of-spots-requires-clause-near
spots_of-spots-requires-clause-near g c = near-low _ _ _ c.args.stretch.window.0.short c.args.stretch.window.0.near

pub spots_of-spots-requires-clause-few : goal.spots_of-spots-requires-clause-few
spots_of-spots-requires-clause-few g c = search (rules, arith)

pub pair_window-requires-clause-window : goal.pair_window-requires-clause-window
pair_window-requires-clause-window g c =
    let s = c.args.stretch in
    record {
      weighed = s.window.0.weighed;
      light = λ p inside. omega (arith, get_or-replicate {A = ℕ} 8192 p 0 0 (omega (arith, inside, c.fill.ensures.same)), c.fill.ensures.have p (omega (arith, inside, c.fill.ensures.same)), light-at c.args.side (s.places.base + 4096) s.places.low p s.places.most (reached s) s.window.1 s.window.0.light);
      few = rw c.deref.ensures.0 (omega (arith, c.spots_of-spots.ensures.few));
      near = all_weaker (λ n. n ≤ 4095) (λ n. n + 4096 ≤ length c.fill.new.window) (λ n is. omega (arith, is, c.fill.ensures.same)) c.deref.result.now
          (rw c.deref.ensures.0 (c.spots_of-spots.ensures.within 4095 (all_weaker (λ (e : Entry). (s.places.low ≤ e.index) × (e.index - s.places.low < 4096)) (λ (e : Entry). e.index - s.places.low ≤ 4095) (λ e is. omega (arith, is.1)) s.later.now
          (near-low _ _ _ s.window.0.short s.window.0.near))));
    }

pub pair_window-requires-clause-room : goal.pair_window-requires-clause-room
pair_window-requires-clause-room g c =
    let s = c.args.stretch in
    rw c.deref.ensures.0 (room_as _ _ _ _ c.requires (λ at. window-lags c.args.side (view_of s) at s.places.base s.places.low c.fill.new.window c.spots_of-spots.result.items (reached s) s.later.now
    c.fill.ensures.same c.fill.ensures.have (near-low _ _ _ s.window.0.short s.window.0.near) (λ f. rw c.later_side.ensures at (c.spots_of-spots.ensures.sums f))))

pub returns : goal.returns
returns g c =
    let s = c.args.stretch in
    counts_as _ _ _ _ _ _ _ _ _ (rw c.deref.ensures.0 at c.pair_window.ensures) (λ at. window-lags c.args.side (view_of s) at s.places.base s.places.low c.fill.new.window c.spots_of-spots.result.items (reached s) s.later.now
    c.fill.ensures.same c.fill.ensures.have (near-low _ _ _ s.window.0.short s.window.0.near) (λ f. rw c.later_side.ensures at (c.spots_of-spots.ensures.sums f))) (omega arith)
