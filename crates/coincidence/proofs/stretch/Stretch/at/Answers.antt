use Rattle.{std.proofs.Common.{◌<◌, ◌≤◌, ◌^◌}, lag_ring.specs.declared.ring.Entry.Entry, coincidence.{specs.Stretch.reached, proofs.LagPairs.placed_parts}}
use Rattle.coincidence.proofs.LagPairs.{placed-all, placed-rising}
use Rattle.coincidence.proofs.stretch.Stretch.at.Goals as goal

pub invariant_of-result : goal.invariant_of-result
invariant_of-result c =
    let s = c.args.self in
    let low = s.places.low in
    let high = s.places.high in
    let w = s.window in
    record {
      window = rw (c.placed.ensures, c.placed-2.ensures, c.placed-3.ensures, placed_parts c.args.base low high s.front.now s.back.now s.own.now) (
        record {
          few = w.0.few;
          early = w.0.early;
          early' = placed-all (λ (e : Entry). e.index < 2 ^ 63) c.args.base low high (reached s) w.0.early';
          short = w.0.short;
          near = w.0.near;
          weighed = w.0.weighed;
          light = placed-all (λ (e : Entry). (e.a ≤ s.places.most) × (e.b ≤ s.places.most)) c.args.base low high (reached s) w.0.light;
          firsts = w.0.firsts;
          seconds = w.0.seconds;
        },
        placed-rising c.args.base low high (reached s) w.1,
      );
    }

pub returns-clause-reached : goal.returns-clause-reached
returns-clause-reached c =
    let s = c.args.self in
    rw (c.placed.ensures, c.placed-2.ensures, c.placed-3.ensures) (placed_parts c.args.base s.places.low s.places.high s.front.now s.back.now s.own.now)
