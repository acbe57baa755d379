use Rattle.std.proofs.{Common.{◌≡◌, ◌∙◌, ◌+◌, ◌%◌, ◌^◌, ◌<◌, ℕ, bit_or, get_or, length, rules, arith}, lemmas.Nat.{le_or_l, le_or_r}}
use Rattle.lag_ring.{specs.Cells.{without_carry, row_at}, proofs.{Between.places_more, Carries.{no-carry, at-set}}}
use Rattle.lag_ring.proofs.cells.add_lows.Goals as goal

pub loop-q-preserved : goal.loop-q-preserved
loop-q-preserved g c =
    let at : ℕ = c.args.from + c.loop-q.q in
    let old = c.args.cells.now in
    let more : ℕ = get_or c.args.row.now c.loop-q.q 0 in
    let inside : at < length c.loop-q.cells = omega (arith, c.requires.inside, c.loop-q-test.true, c.loop-q.invariant.same) in
    let here : row_at c.args.from c.args.row.now at ≡ more = search (rules, arith) in
    let was : get_or c.loop-q.cells at 0 ≡ get_or old at 0 = c.loop-q.invariant.left at (omega arith) in
    let is : c.add_low-seen.new.cell ≡ without_carry (get_or old at 0) more = search rules in
    record {
      lows = λ p upto. at-set (λ p. without_carry (get_or old p 0) (row_at c.args.from c.args.row.now p)) _ _ _ p inside (rw here is) (λ other. c.loop-q.invariant.lows p (omega arith));
      sums = λ small.
          let limit : bit_or c.loop-q.seen c.add_low-seen.result < 2 ^ 63 = small in
          let were : c.loop-q.seen < 2 ^ 63 = omega (arith, limit, le_or_l c.loop-q.seen c.add_low-seen.result) in
          let half : c.add_low-seen.result ≡ get_or old at 0 % 2 ^ 64 = search rules in
          let low : get_or old at 0 % 2 ^ 64 < 2 ^ 63 = omega (arith, half, limit, le_or_r c.loop-q.seen c.add_low-seen.result) in
          λ p upto. at-set (λ p. get_or old p 0 + row_at c.args.from c.args.row.now p) _ _ _ p inside (rw here (is ∙ no-carry (get_or old at 0) more low (search rules))) (λ other. c.loop-q.invariant.sums were p (omega arith));
      left = search rules;
      same = search rules;
      places = c.note.ensures ∙ places_more _ _ _ _ c.loop-q.invariant.places;
      steps = search rules;
    }
