use Rattle.{std.proofs.{Common.{◌≡◌, ◌-◌, length, get_or, arith, rules}, lemmas.{Bool.leb-true, Option.get_or_from_slice_get}}, settle.specs.Standing.kept_back}
use Rattle.record_stream.proofs.letting_go.is_full.Goals as goal

pub returns-then-held-walk : goal.returns-then-held-walk
returns-then-held-walk c = λ low.
    let s = c.args.settle.now in
    let w = kept_back s in
    record {
      full = omega (arith, c.held.ensures.value, c.if-held-walk.true, c.requires.reach);
      below = λ k d lt.
          let is : get_or w (length w - 1) d ≡ c.in-Some.last.now = search (rules, arith, get_or_from_slice_get) in
          let up = rw is at (s.rising k (length w - 1) d (omega (arith, lt)) (omega (arith, lt))) in
          omega (arith, up, leb-true c.in-Some.last.now.time c.greatest.result low, c.greatest.ensures);
    }
