use Rattle.{std.proofs.{Common.{arith, rules, ◌≡◌, slice_get, Some}, lemmas.List.length-set}, lag_ring.{specs.Ring.kept_or, proofs.Rising.{all_at, all_set}}}
use Rattle.lag_ring.proofs.{Rising.rising_set, ring.LagRing.set_b.Goals.{in-Some, in_default}}
use Rattle.lag_ring.proofs.ring.LagRing.set_b.Goals as goal

pub invariant_of-self : goal.invariant_of-self
invariant_of-self c =
    let r = c.self.inside in
    elim c.match-get_mut.branch [
      | in-Some w ↦
          let at : slice_get (kept_or r.alone r.last r.kept.items) c.args.i ≡ Some w.in-Some.entry.now = search (rules, arith) in
          rw (w.self-inside-is, c.lay_out.ensures) (search (rules, arith, rising_set, length-set, all_set, all_at))
      | in_default w ↦ rw (w.self-inside-is, c.lay_out.ensures) (search (rules, arith))
    ]
