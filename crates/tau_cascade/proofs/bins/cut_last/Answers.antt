use Rattle.{std.proofs.{Common.{◌≡◌, ◌-◌, suc, map, rules, arith}, lemmas.List.{get_or-map, length-map, drop-map}}, tau_cascade.specs.Bins.raised}
use Rattle.tau_cascade.proofs.{Close.no_bin, Spread.cut_before}
use Rattle.tau_cascade.proofs.bins.cut_last.Goals as goal

pub returns-then-bin-levels : goal.returns-then-bin-levels
returns-then-bin-levels c =
    let one : suc (c.back.closed - 1) ≡ c.back.closed = omega arith in
    record {
      few = search (rules, arith, length-map);
      before = rw (← one) (cut_before (map (raised c.args.bins.levels) c.args.bins.list.now) (c.back.closed - 1) _ no_bin c.args.bins.sorted
          (search (rules, arith, one, length-map)) (rw (one, drop-map) c.back.invariant.here) (search (rules, arith, get_or-map)));
      here = rw drop-map c.back.invariant.here;
      a = rw drop-map c.back.invariant.a;
      b = rw drop-map c.back.invariant.b;
    }

pub returns : goal.returns
returns c =
    let none : c.back.closed ≡ 0 = omega arith in
    record {
      few = search (rules, arith, length-map);
      before = rw none tt;
      here = rw drop-map c.back.invariant.here;
      a = rw drop-map c.back.invariant.a;
      b = rw drop-map c.back.invariant.b;
    }
